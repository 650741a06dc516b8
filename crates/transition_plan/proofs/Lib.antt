mod InOrder
mod Places
mod Skipping
mod Tellers
