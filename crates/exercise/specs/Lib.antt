pub mod Exercised
