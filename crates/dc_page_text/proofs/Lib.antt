mod Texts
mod Groups
mod Numbers
