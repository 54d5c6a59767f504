mod Entries
mod Listing
