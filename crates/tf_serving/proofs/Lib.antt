mod Needed
mod Serving
mod Views
