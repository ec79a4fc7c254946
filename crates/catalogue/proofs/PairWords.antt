-- What the pair of a package holds.
use Rattle.std.proofs.Common.{◌≡◌, ℕ, ◌<◌, List, length, get_or, ◌∙◌}
use Rattle.sheets.specs.Sheets.{word_at, offset_of, size_of}
use Rattle.catalogue.specs.SheetMeanings.{Units}

pub pair_read : (bytes : List ℕ) (pairs : List (List ℕ)) → Units bytes 4 pairs → (p : ℕ) (d : List ℕ) → p < length pairs → (offset size : ℕ) → offset ≡ word_at (get_or pairs p d) 0 → size ≡ word_at (get_or pairs p d) 4
    → (offset ≡ offset_of bytes p) × (size ≡ size_of bytes p)
pair_read bytes pairs units p d h offset size o s = (o ∙ units.first p d h, s ∙ units.second p d h)
