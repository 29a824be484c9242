mod Found
mod Printed
