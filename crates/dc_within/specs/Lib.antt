-- What is observed of a run stays within the numbers of the certificate.
pub mod Within
