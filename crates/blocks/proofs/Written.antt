-- The blocks are written one after the other. Assumes nothing.
use Rattle.std.proofs.Common.{◌≡◌, ℕ, ◌+◌, List, [], ◌++◌, get_or, refl, ap, ◌∙◌, add-one}
use Rattle.blocks.specs.Encoding.{bytes_of, listing}

pub listing_none : (firsts lasts homes : List ℕ) → listing firsts lasts homes 0 ≡ []
unfolding listing
listing_none firsts lasts homes = refl

pub listing_more : (firsts lasts homes : List ℕ) (k : ℕ) → listing firsts lasts homes (k + 1) ≡ listing firsts lasts homes k ++ bytes_of (get_or firsts k 0) (get_or lasts k 0) (get_or homes k 0)
unfolding listing
listing_more firsts lasts homes k = ap (listing firsts lasts homes) (add-one k) ∙ refl
