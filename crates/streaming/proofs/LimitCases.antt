-- The limit's cases of 01, of streams: whatever the cutting and the rooms, L digits of hex are accepted, and one byte more is answer 2 at L with
-- 8,388,608 good bytes, a dropped byte included. Assumes nothing.
use Prim.Native.Nat.{ℕ, ◌^◌, ◌<◌, ◌≤◌}
use mathlib.Core.Path.{◌≡◌, sym, subst}
use mathlib.Core.List.{List, ◌∷◌, ◌++◌, map}
use lib.ListN.{length}
use Rattle.alphabet.specs.Bits.{Below}
use Rattle.alphabet.specs.Alphabet.{bits, digit}
use Rattle.reading.specs.Limit.{limit}
use Rattle.reading.proofs.LimitCases.{AtLimit, limit_accepted, limit_passed}
use Rattle.streaming.specs.Stream.{Stream, started, start_of}
use Rattle.streaming.specs.Driving.{Offer, begin, drive, Settled}
use Rattle.streaming.specs.Promises.{finish_verdict}
use Rattle.streaming.proofs.Standing.{start_is}
use Rattle.streaming.proofs.AnyCutting.{any_cutting}

module _ (a : ℕ) (hex : 4 ≤ a) (h : a < 6) (opts : ℕ) (s : Stream) (e : start_of a opts ≡ started s) (ds : List ℕ) (b : Below (2 ^ bits a) ds) (n : length ds ≡ limit) where
  pub stream_accepted : Below 256 (map (digit a) ds) → (os : List Offer) → Settled (drive os (begin s (map (digit a) ds)))
      → AtLimit 0 (finish_verdict (drive os (begin s (map (digit a) ds))))
  stream_accepted l os y =
      subst (AtLimit 0) (sym (any_cutting a opts (map (digit a) ds) l s e os y).whole) (limit_accepted a hex h opts (start_is a opts s e).0 ds b n)

  pub stream_passed : (byte : ℕ) (u : List ℕ) → Below 256 (map (digit a) ds ++ byte ∷ u) → (os : List Offer)
      → Settled (drive os (begin s (map (digit a) ds ++ byte ∷ u))) → AtLimit 2 (finish_verdict (drive os (begin s (map (digit a) ds ++ byte ∷ u))))
  stream_passed byte u l os y =
      subst (AtLimit 2) (sym (any_cutting a opts (map (digit a) ds ++ byte ∷ u) l s e os y).whole)
      (limit_passed a hex h opts (start_is a opts s e).0 ds b n byte u)
