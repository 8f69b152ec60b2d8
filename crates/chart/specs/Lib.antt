-- What the program says on standard error beside its picture: that a title was never opened, and at a moment that is no admission the next
-- one. The text is the definition's: `chart::complaints::put_beginning`, contract `beginning_line`. Every picture of a box fits into the
-- room that the program lends, so that none of it is left out: specs/Room `EveryBoxFits`, shown in proofs/Fits `every_box_fits`.
pub mod Complaints
pub mod Room
