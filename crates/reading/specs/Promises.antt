-- 01, "Answers": what is shown of a verdict against the cleaning. 0 exactly on accepted texts up to L; a byte is refused at i exactly when the text
-- through i has no accepted continuation and the text before i has one; a refusal at the end means that the text could go on but is not accepted;
-- the good bytes are the first floor(b*d/8) bytes, and the longest start that all accepted continuations share. Assumes nothing.
use Rattle.std.specs.Prelude.{ℕ, suc, ◌+◌, ◌*◌, ◌/◌, ◌<◌, ◌≤◌, ◌≡◌, ◌⊎◌, ◌↔◌, Bool, cond, List, [], ◌∷◌, map, length, take}
use Rattle.alphabet.specs.Bits.{Below}
use Rattle.alphabet.specs.Alphabet.{bits, is_digit}
use Rattle.alphabet.specs.Written.{written}
use Rattle.reading.specs.Limit.{limit}
use Rattle.reading.specs.Cleaning.{kept, turned, clean, Accepted}
use Rattle.reading.specs.Continuation.{Continued, LongestShared}
use Rattle.reading.specs.Reader.{Verdict}

-- how many of the numbers pass the test
unfoldable pub count_of : (ℕ → Bool) → List ℕ → ℕ
count_of f [] = 0
count_of f (c ∷ cs) = cond (f c) (suc (count_of f cs)) (count_of f cs)

-- the digits of a text, after dropping and case turning
unfoldable pub digits_in : ℕ → ℕ → List ℕ → ℕ
digits_in a opts t = count_of (is_digit a) (map (turned a opts) (kept opts t))

-- the verdict blames the byte at index i, by one of the answers 4 to 7
pub record BlamesByte (v : Verdict) (i : ℕ) : Type 0 where
  pub place : v.position ≡ i
  pub low : 4 ≤ v.answer
  pub high : v.answer ≤ 7

-- the text through i has no accepted continuation, and the text before i has one
pub record LostAt (a opts : ℕ) (t : List ℕ) (i : ℕ) : Type 0 where
  pub before : Continued a opts (take i t)
  pub through : Continued a opts (take (i + 1) t) → ⊥

-- the verdict blames the text's end, by spare bits or as cut short
pub record BlamesEnd (v : Verdict) (t : List ℕ) : Type 0 where
  pub place : v.position ≡ length t
  pub kind : (v.answer ≡ 6) ⊎ (v.answer ≡ 8)

-- the text, not too long, could go on but is not accepted
pub record Unfinished (a opts : ℕ) (t : List ℕ) : Type 0 where
  pub continued : Continued a opts t
  pub unaccepted : Accepted a opts t → ⊥
  pub fits : length t ≤ limit

-- the answers of a judge whose choice is allowed
abbrev pub Listed : ℕ → Type 0
Listed k = (k ≡ 0) ⊎ ((k ≡ 2) ⊎ ((4 ≤ k) × (k ≤ 8)))

pub record Promised (a opts : ℕ) (t : List ℕ) (v : Verdict) : Type 0 where
  pub zero_exactly : (v.answer ≡ 0) ↔ (Accepted a opts t × (length t ≤ limit))
  pub zero_place : v.answer ≡ 0 → v.position ≡ length t
  pub form : v.answer ≡ 0 → written a v.good ≡ clean a opts t
  pub byte_refused : (i : ℕ) → i < length t → i < limit → BlamesByte v i ↔ LostAt a opts t i
  pub end_refused : BlamesEnd v t ↔ Unfinished a opts t
  pub too_long : (v.answer ≡ 2) ↔ ((limit < length t) × Continued a opts (take limit t))
  pub too_long_place : v.answer ≡ 2 → v.position ≡ limit
  pub listed : Listed v.answer
  pub in_text : v.position ≤ length t
  pub in_limit : v.position ≤ limit
  pub bytes : Below 256 v.good
  pub good : LongestShared a opts (take v.position t) v.good
  pub count : length v.good ≡ bits a * digits_in a opts (take v.position t) / 8
