-- Class tables as stretches of glyphs, and glyphs of a coverage that are in one.
use Rattle.std.specs.Prelude.{ℕ, ◌+◌, Bool, false, cond, ◌&&◌, ◌||◌, List, [], ◌∷◌, leb, eqb}
use Rattle.meaning.specs.Words.{word, words, triples}

-- the classes of an array, of the glyphs from g on, as stretches of one glyph each
unfoldable pub ones : ℕ → List ℕ → List (ℕ × ℕ × ℕ)
ones g [] = []
ones g (c ∷ cs) = (g, g, c) ∷ ones (g + 1) cs

-- the stretches of the class table at `at`: first glyph, last glyph, class
unfoldable pub stretches : List ℕ → ℕ → List (ℕ × ℕ × ℕ)
stretches s at = cond (eqb (word s at) 1) (ones (word s (at + 2)) (words s (at + 6) (word s (at + 4)))) (triples s (at + 4) (word s (at + 2)))

-- one of these glyphs is from a to z
unfoldable pub any_between : ℕ → ℕ → List ℕ → Bool
any_between a z [] = false
any_between a z (g ∷ gs) = (leb a g && leb g z) || any_between a z gs
