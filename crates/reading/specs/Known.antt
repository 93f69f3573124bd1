-- 01, "Texts with known outcomes": the fourteen texts marked *, each with its answer, position, good bytes and, where given, its tidied text.
-- Assumes nothing.
use Rattle.std.specs.Prelude.{ℕ, Bool, true, false, ◌&&◌, List, [], ◌∷◌, eqb}
use Prim.Native.String.{String}
use Rattle.alphabet.specs.Ascii.{ascii}
use Rattle.reading.specs.Cleaning.{clean}
use Rattle.reading.specs.Reader.{Verdict, judged}

-- whether 01 gives a tidied text, and which
pub data Tidying : Type 0 where
  untold : Tidying
  to : String → Tidying

-- a text under an alphabet and options, and its outcome
pub record Row : Type 0 where
  pub alphabet : ℕ
  pub options : ℕ
  pub text : String
  pub answer : ℕ
  pub position : ℕ
  pub good : String
  pub tidied : Tidying

abbrev pub row : ℕ → ℕ → String → ℕ → ℕ → String → Tidying → Row
row a opts t k i g u = record { alphabet = a; options = opts; text = t; answer = k; position = i; good = g; tidied = u }

-- two texts are the same
unfoldable pub same : List ℕ → List ℕ → Bool
same [] [] = true
same [] (y ∷ ys) = false
same (x ∷ xs) [] = false
same (x ∷ xs) (y ∷ ys) = eqb x y && same xs ys

unfoldable pub tidies : ℕ → ℕ → List ℕ → Tidying → Bool
tidies a opts t untold = true
tidies a opts t (to u) = same (clean a opts t) (ascii u)

-- the outcome is what the row says
unfoldable pub holds : Row → Bool
holds r =
    let v : Verdict = judged r.alphabet r.options (ascii r.text) in
    eqb v.answer r.answer && eqb v.position r.position && same v.good (ascii r.good) && tidies r.alphabet r.options (ascii r.text) r.tidied

unfoldable pub all_hold : List Row → Bool
all_hold [] = true
all_hold (r ∷ rs) = holds r && all_hold rs

abbrev pub starred : List Row
starred =
    row 0 0 "" 0 0 "" untold
    ∷ row 0 0 "Zm9vYg==" 0 8 "foob" untold
    ∷ row 0 0 "Zh==" 6 2 "f" untold
    ∷ row 0 8 "Zh==" 0 4 "f" (to "Zg==")
    ∷ row 0 4 "Zm9" 6 3 "fo" untold
    ∷ row 0 4 "Zm8" 0 3 "fo" (to "Zm8=")
    ∷ row 0 4 "Zg=" 8 3 "f" untold
    ∷ row 0 0 "Zg==Zg==" 7 4 "f" untold
    ∷ row 0 0 "Z===" 5 1 "" untold
    ∷ row 0 1 "Zg=\r\n=" 0 6 "f" untold
    ∷ row 2 0 "MZXW6YQ=" 0 8 "foob" untold
    ∷ row 2 0 "MZ======" 6 2 "f" untold
    ∷ row 2 16 "my======" 0 8 "f" (to "MY======")
    ∷ row 4 0 "666" 8 3 "f" untold
    ∷ []
