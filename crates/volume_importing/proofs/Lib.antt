mod Importing
