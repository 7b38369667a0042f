mod Figures
mod Numerals
