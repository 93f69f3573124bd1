-- 01, "The named laxities": cleaning, in this order, each step only where its option is set; a text is accepted exactly when its cleaned text is
-- canonical. Assumes nothing.
use Rattle.std.specs.Prelude.{ℕ, suc, ◌+◌, ◌-◌, ◌*◌, ◌/◌, ◌%◌, ◌^◌, Bool, false, cond, not, ◌&&◌, ◌||◌, List, [], ◌∷◌, ◌++◌, map, eqb, ltb, leb, length, get_or, set, replicate}
use Rattle.alphabet.specs.Alphabet.{group, padded, pad, spare, digit, value, is_digit}
use Rattle.alphabet.specs.Written.{wanting, Canonical}
use Rattle.reading.specs.Options.{lines, blank, nopad, any_spare, any_case}

-- 1. what LINES and BLANK name
unfoldable pub dropped : ℕ → ℕ → Bool
dropped opts c = lines opts && (eqb c 13 || eqb c 10) || blank opts && (eqb c 32 || eqb c 9)

unfoldable pub kept : ℕ → List ℕ → List ℕ
kept opts [] = []
kept opts (c ∷ cs) = cond (dropped opts c) (kept opts cs) (c ∷ kept opts cs)

-- 2. letters of the other case
unfoldable pub upper : ℕ → ℕ
upper c = cond (leb 97 c && leb c 122) (c - 32) c

unfoldable pub lower : ℕ → ℕ
lower c = cond (leb 65 c && leb c 90) (c + 32) c

unfoldable pub turned : ℕ → ℕ → ℕ → ℕ
turned a opts c = cond (any_case opts) (cond (eqb a 5) (lower c) (upper c)) c

-- 3. padding that is wholly absent
unfoldable pub has : ℕ → List ℕ → Bool
has c [] = false
has c (x ∷ xs) = eqb x c || has c xs

unfoldable pub refilled : ℕ → ℕ → List ℕ → List ℕ
refilled a opts t = cond (nopad opts && padded a && not (has pad t)) (t ++ replicate (wanting (group a) (length t)) pad) t

-- 4. spare bits

-- the length of the run of = at the text's end
unfoldable pub pad_run : List ℕ → ℕ
pad_run [] = 0
pad_run (c ∷ cs) = cond (eqb c pad && eqb (pad_run cs) (length cs)) (suc (pad_run cs)) (pad_run cs)

-- the digit c with its s low bits zero
unfoldable pub cleared_digit : ℕ → ℕ → ℕ → ℕ
cleared_digit a s c = digit a (value a c / 2 ^ s * 2 ^ s)

unfoldable pub cleared : ℕ → ℕ → List ℕ → List ℕ
cleared a opts t =
    let p : ℕ = pad_run t in
    let last : ℕ = length t - (p + 1) in
    let c : ℕ = get_or t last 0 in
    cond (any_spare opts && eqb (length t % group a) 0 && ltb 0 (spare a p) && ltb p (length t) && is_digit a c)
    (set t last (cleared_digit a (spare a p) c))
    t

unfoldable pub clean : ℕ → ℕ → List ℕ → List ℕ
clean a opts t = cleared a opts (refilled a opts (map (turned a opts) (kept opts t)))

abbrev pub Accepted : ℕ → ℕ → List ℕ → Type 0
Accepted a opts t = Canonical a (clean a opts t)
