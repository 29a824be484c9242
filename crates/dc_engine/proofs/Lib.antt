mod Told
mod Runs
mod Judged
