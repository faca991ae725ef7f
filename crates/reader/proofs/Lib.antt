mod Lists
mod Journal
mod Rebuilding
