-- The folder Listings: the listing of words reads back.
pub mod ListingRows
pub mod ListingLines
pub mod ListingWords
pub mod ListingBack
pub mod ListingNumbers
pub mod ListingLengths
