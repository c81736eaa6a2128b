-- What the program prints for the bytes that it reads.
pub mod Printed
pub mod Worked
