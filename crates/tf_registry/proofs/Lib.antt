pub mod Maps
pub mod Rows
pub mod Picks
pub mod Installs
pub mod Firsts
