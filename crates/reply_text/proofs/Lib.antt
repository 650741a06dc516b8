mod Joins
mod Words
