mod Lists
mod Moves
mod Spelled
