mod Firsts
mod Ignoring
mod Seeing
mod States
mod Taking
