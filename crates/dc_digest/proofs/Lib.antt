mod Behinds
mod Digested
mod Reporting
