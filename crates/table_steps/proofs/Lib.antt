mod Looks
mod Histories
mod Commands
mod Widths
