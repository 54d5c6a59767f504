mod Forms
mod Loops
mod Opened
