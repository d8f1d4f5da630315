mod BeforeImages
mod BytesBefore
mod ChangeReading
mod ChangeTexts
mod Patches
mod PieceLists
mod Searched
