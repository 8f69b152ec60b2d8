-- `shared_counts` meets its contract: the places in use go to the sharing, and its row is the answer.
use Rattle.sharers.proofs.Sharers.{in_use}
use Rattle.wishes.specs.Shares.{counts_of}
use Rattle.wishes.proofs.shares.shared_counts.Goals as goal

pub slice_bounds-share-end : goal.slice_bounds-share-end
slice_bounds-share-end c =
    let w = c.requires in in_use _ _ w.few w.rates

pub slice_bounds-share-end-2 : goal.slice_bounds-share-end-2
slice_bounds-share-end-2 c =
    let w = c.requires in in_use _ _ w.few w.lengths

pub slice_bounds-share-end-3 : goal.slice_bounds-share-end-3
slice_bounds-share-end-3 c =
    let w = c.requires in in_use _ _ w.few w.floors

pub slice_bounds-share-end-4 : goal.slice_bounds-share-end-4
slice_bounds-share-end-4 c =
    let w = c.requires in in_use _ _ w.few w.caps

pub returns : goal.returns
unfolding counts_of
returns c = c.share.ensures.counts
