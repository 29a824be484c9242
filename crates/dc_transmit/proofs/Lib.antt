mod Scan
mod Counting
