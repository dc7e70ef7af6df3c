mod Unaffected
mod Links
mod Looks
mod Ranges
mod Growth
mod Simple
mod Settles
