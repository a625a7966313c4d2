pub mod Unstuffing
