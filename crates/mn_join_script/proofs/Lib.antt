mod Front
mod Gathering
mod Playing
mod Joining
