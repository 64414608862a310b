mod Numbers
mod SamePlaces
mod Appending
mod Lists
