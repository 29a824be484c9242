mod Worked
mod Reading
mod Told
