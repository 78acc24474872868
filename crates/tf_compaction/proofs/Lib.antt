mod Merging
