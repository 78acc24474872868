mod Rules
mod Reckoned
