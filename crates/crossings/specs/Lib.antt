-- What the crossings between a lent list of segments and three plain lists say. Definitions only; what is proved of
-- them stands in proofs/.
pub mod Lists
