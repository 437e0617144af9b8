mod Sparing
