-- What holds of every DMA chip in its ranges, and stays so.
use mathlib.Core.Path.{◌≡◌, refl, ◌∙◌}
use mathlib.Core.List.{List, [], ◌∷◌}
use mathlib.Core.Bool.{Bool, true, false, not, true≢false}
use Prim.Native.Nat.{ℕ, zero, suc, ◌+◌, ◌/◌, ◌<◌, ◌%◌}
use native.Mathlib.Omega.{arith}
use lib.Dec.{eqb, ltb, leb}
use lib.ListN.{get_or, length, length-set}
use borrow.Author.Tests.{eqb-false}
use Rattle.bits.specs.Choice.{◌and◌, ◌or◌}
use Rattle.std.specs.Prelude.{if◌then◌else◌}
use Rattle.bits.specs.Bits.{bit_of, with_of, masked_of}
use Rattle.dma.specs.declared.Span.{Span}
use Rattle.dma.specs.declared.Channel.{Channel}
use Rattle.dma.specs.declared.Dma.{Dma}
use Rattle.dma.specs.Answers.{Written}
use Rattle.dma.specs.Answers.{Got}
use Rattle.dma.specs.Fields.{none, chan, selected, served, masked_is, wide_is, requests_are}
use Rattle.dma.specs.Registers.{unset, chosen, reset_of, requested_of, any_words, unbuilt_mode, refuses_mode, replaced_of, initialized_of, selected_of, loaded_of, controlled_of, moded_of, masked_by, write_of, read_of}
use Rattle.dma.specs.Cycle.{down, auto, width, stepped, moved_by, moved_of, ready, channel_at, winner_from, winner, first_after, last_of, stops_of, releases, nothing_of, granted_of, released_of, unit_of, cycle_by, cycle_of}
use Rattle.tape.proofs.Decodes.{either}
use Rattle.promises.proofs.Lists.{put}

pub record Good (c : Channel) : Type 0 where
  pub address : c.current.address < 16777216
  pub home : c.base.address < 16777216
  pub count : c.current.count < 65536
  pub size : c.base.count < 65536
  pub built : unbuilt_mode c.mode ≡ false

pub record Sound (d : Dma) : Type 0 where
  pub four : length d.channels ≡ 4
  pub selected : d.selected < 4
  pub first : d.first < 4
  pub channel : d.channel < 4
  pub requests : d.requests < 16
  pub ends : d.ends < 16
  pub good : (n : ℕ) → Good (chan d n)

-- A number chosen by a test.
pub below : (q : Bool) (a b k : ℕ) → a < k → b < k → (if q then a else b) < k
below true a b k x y = x
below false a b k x y = y

-- A channel that moves on.
step_small : (a : ℕ) (falls : Bool) (w : ℕ) → stepped a falls w < 16777216
step_small a true w = omega arith
step_small a false w = omega arith

pub moved_good : (c : Channel) (last : Bool) → Good c → Good (moved_of c last)
unfolding moved_of
moved_good c last g = at last (auto c)
  where
    at : (l a : Bool) → Good (moved_by c l a)
    at true true = record { address = g.home; home = g.home; count = g.size; size = g.size; built = g.built }
    at true false = record { address = step_small _ (down c) (width c); home = g.home; count = omega arith; size = g.size; built = g.built }
    at false a = record { address = step_small _ (down c) (width c); home = g.home; count = omega arith; size = g.size; built = g.built }

-- An end bit more.
with_small : (x n : ℕ) → x < 16 → n < 4 → with_of x n < 16
unfolding with_of bit_of
with_small x zero h l = at (eqb (x / 1 % 2) 1) refl
  where
    at : (q : Bool) → eqb (x / 1 % 2) 1 ≡ q → (if q then x else x + 1) < 16
    at true q = h
    at false q = omega (arith, eqb-false (x / 1 % 2) 1 q)
with_small x (suc zero) h l = at (eqb (x / 2 % 2) 1) refl
  where
    at : (q : Bool) → eqb (x / 2 % 2) 1 ≡ q → (if q then x else x + 2) < 16
    at true q = h
    at false q = omega (arith, eqb-false (x / 2 % 2) 1 q)
with_small x (suc (suc zero)) h l = at (eqb (x / 4 % 2) 1) refl
  where
    at : (q : Bool) → eqb (x / 4 % 2) 1 ≡ q → (if q then x else x + 4) < 16
    at true q = h
    at false q = omega (arith, eqb-false (x / 4 % 2) 1 q)
with_small x (suc (suc (suc zero))) h l = at (eqb (x / 8 % 2) 1) refl
  where
    at : (q : Bool) → eqb (x / 8 % 2) 1 ≡ q → (if q then x else x + 8) < 16
    at true q = h
    at false q = omega (arith, eqb-false (x / 8 % 2) 1 q)
with_small x (suc (suc (suc (suc n)))) h l = omega arith

-- A winner of the ranks is one of four channels.
won : (d : Dma) (k left : ℕ) → eqb (winner_from d k left) 4 ≡ false → winner_from d k left < 4
unfolding winner_from channel_at
won d k zero h = absurd (true≢false h)
won d k (suc left) h = at (ready d (channel_at d k)) (won d (suc k) left) h
  where
    at : (q : Bool)
        → (eqb (winner_from d (suc k) left) 4 ≡ false → winner_from d (suc k) left < 4)
        → eqb (if q then channel_at d k else winner_from d (suc k) left) 4 ≡ false
        → (if q then channel_at d k else winner_from d (suc k) left) < 4
    at true ih h = omega arith
    at false ih h = ih h

-- A byte of a count or an address replaced.
replaced_small : (r x : ℕ) (p : Span) → p.address < 16777216 → p.count < 65536
    → ((replaced_of r x p).address < 16777216) × ((replaced_of r x p).count < 65536)
unfolding replaced_of
replaced_small r x p h l =
    either P (eqb r 2) (λ _. (h, omega arith))
    (λ _. either P (eqb r 3) (λ _. (h, omega arith))
    (λ _. either P (eqb r 4) (λ _. (omega arith, l))
    (λ _. either P (eqb r 5) (λ _. (omega arith, l))
    (λ _. (omega arith, l)))))
  where
    P : Span → Type 0
    P q = (q.address < 16777216) × (q.count < 65536)

-- Reset, and what stands where there is no channel.
pub none_good : Good none
unfolding unbuilt_mode bit_of
none_good = record { address = omega arith; home = omega arith; count = omega arith; size = omega arith; built = refl }

unset_good : Good unset
unfolding unbuilt_mode bit_of
unset_good = record { address = omega arith; home = omega arith; count = omega arith; size = omega arith; built = refl }

pub reset_sound : Sound reset_of
unfolding reset_of
reset_sound =
    record { four = refl; selected = omega arith; first = omega arith; channel = omega arith; requests = omega arith; ends = omega arith; good = at }
  where
    at : (n : ℕ) → Good (chan reset_of n)
    at zero = unset_good
    at (suc zero) = unset_good
    at (suc (suc zero)) = unset_good
    at (suc (suc (suc zero))) = unset_good
    at (suc (suc (suc (suc n)))) = none_good

module _ (d : Dma) (s : Sound d) where
  first_small : (n : ℕ) → first_after d n < 4
  first_small n = below d.rotate _ _ 4 (omega arith) s.first

  -- A bus cycle.
  pub cycle_sound : (e : Bool) (x y : ℕ) (m : List ℕ) → Sound (cycle_of d e x y m).dma
  unfolding cycle_of nothing_of granted_of released_of unit_of
  cycle_sound e x y m = at d.serving (releases d) d.disabled (eqb (winner d) 4) refl
    where
      last : Bool
      last = last_of (served d) e

      halt : Bool
      halt = stops_of (served d) last

      at : (v r k w : Bool) → eqb (winner d) 4 ≡ w → Sound (cycle_by d e x y m v r k w).dma
      at true true k w q =
          record { four = s.four; selected = s.selected; first = first_small d.channel; channel = omega arith; requests = s.requests; ends = s.ends; good = s.good }
      at true false k w q =
          record {
            four = length-set d.channels d.channel (moved_of (served d) last) ∙ s.four;
            selected = s.selected;
            first = below halt _ _ 4 (first_small d.channel) s.first;
            channel = below halt _ _ 4 (omega arith) s.channel;
            requests = s.requests;
            ends = below last _ _ 16 (with_small d.ends d.channel s.ends s.channel) s.ends;
            good = λ n. put Good d.channels d.channel n (moved_of (served d) last) none (λ _. moved_good (served d) last (s.good d.channel)) (s.good n);
          }
      at false r true w q = s
      at false r false true q = s
      at false r false false q =
          record { four = s.four; selected = s.selected; first = s.first; channel = won d 0 4 q; requests = s.requests; ends = s.ends; good = s.good }

  -- The request lines, and a read.
  pub requests_sound : (l : ℕ) → Sound (requested_of d l)
  unfolding requested_of
  requests_sound l =
      record { four = s.four; selected = s.selected; first = s.first; channel = s.channel; requests = omega arith; ends = s.ends; good = s.good }

  pub read_sound : (r : ℕ) → Sound (read_of d r).dma
  unfolding read_of
  read_sound r =
      either P (eqb n 0) (λ _. s)
      (λ _. either P (eqb n 1) (λ _. s)
      (λ _. either P (leb n 6) (λ _. s)
      (λ _. either P (eqb n 7) (λ _. s)
      (λ _. either P (eqb n 8) (λ _. s)
      (λ _. either P (eqb n 9) (λ _. s)
      (λ _. either P (eqb n 10) (λ _. s)
      (λ _. either P (eqb n 11)
      (λ _. record { four = s.four; selected = s.selected; first = s.first; channel = s.channel; requests = s.requests; ends = omega arith; good = s.good })
      (λ _. either P (ltb n 15) (λ _. s) (λ _. s)))))))))
    where
      n : ℕ
      n = r % 16

      P : Got → Type 0
      P g = Sound g.dma

  -- A write.
  choose : (c : Channel) → Good c → Sound (chosen c d)
  choose c g =
      record {
        four = length-set d.channels d.selected c ∙ s.four;
        selected = s.selected;
        first = s.first;
        channel = s.channel;
        requests = s.requests;
        ends = s.ends;
        good = λ n. put Good d.channels d.selected n c none (λ _. g) (s.good n);
      }

  load_sound : (r x : ℕ) → Sound (loaded_of d r x)
  unfolding loaded_of
  load_sound r x =
      let g = s.good d.selected in
      let b = replaced_small r x (selected d).base g.home g.size in
      let c = replaced_small r x (selected d).current g.address g.count in
      either Sound d.base
      (λ _. choose _ (record { address = g.address; home = b.0; count = g.count; size = b.1; built = g.built }))
      (λ _. choose _ (record { address = c.0; home = b.0; count = c.1; size = b.1; built = g.built }))

  masks_sound : (x : ℕ) → Sound (masked_by d x)
  unfolding masked_by
  masks_sound x =
      record { four = refl; selected = s.selected; first = s.first; channel = s.channel; requests = s.requests; ends = s.ends; good = at }
    where
      same : (n : ℕ) (k : Bool) → Good (masked_is k (chan d n))
      same n k =
          let g = s.good n in
          record { address = g.address; home = g.home; count = g.count; size = g.size; built = g.built }

      at : (n : ℕ) → Good (get_or (masked_is (bit_of x 0) (chan d 0) ∷ masked_is (bit_of x 1) (chan d 1) ∷ masked_is (bit_of x 2) (chan d 2) ∷ masked_is (bit_of x 3) (chan d 3) ∷ []) n none)
      at zero = same 0 (bit_of x 0)
      at (suc zero) = same 1 (bit_of x 1)
      at (suc (suc zero)) = same 2 (bit_of x 2)
      at (suc (suc (suc zero))) = same 3 (bit_of x 3)
      at (suc (suc (suc (suc n)))) = none_good

  abbrev W : Written → Type 0
  W w = Sound w.dma

  reset_by_write : (k : Bool) → Sound (wide_is k (requests_are d.requests reset_of))
  unfolding reset_of
  reset_by_write k =
      record { four = refl; selected = omega arith; first = omega arith; channel = omega arith; requests = s.requests; ends = omega arith; good = reset_sound.good }

  pub write_sound : (r x : ℕ) → Sound (write_of d r x).dma
  unfolding write_of initialized_of selected_of controlled_of moded_of refuses_mode
  write_sound r x =
      either W (eqb n 0)
      (λ _. either W (bit_of x 0) (λ _. reset_by_write (bit_of x 1))
      (λ _. either W (not (bit_of x 1) and any_words d) (λ _. s)
      (λ _. record { four = s.four; selected = s.selected; first = s.first; channel = s.channel; requests = s.requests; ends = s.ends; good = s.good })))
      (λ _. either W (eqb n 1)
      (λ _. record { four = s.four; selected = omega arith; first = s.first; channel = s.channel; requests = s.requests; ends = s.ends; good = s.good })
      (λ _. either W (leb n 6) (λ _. load_sound n x)
      (λ _. either W (eqb n 7) (λ _. s)
      (λ _. either W (eqb n 8)
      (λ _. either W (eqb (masked_of x 20) 0)
      (λ _. record {
        four = s.four;
        selected = s.selected;
        first = below (bit_of x 4 and d.rotate) _ _ 4 s.first (omega arith);
        channel = s.channel;
        requests = s.requests;
        ends = s.ends;
        good = s.good;
      })
      (λ _. s))
      (λ _. either W (eqb n 9) (λ _. either W (eqb x 0) (λ _. s) (λ _. s))
      (λ _. either W (eqb n 10)
      (λ _. either W (refuses_mode d x) (λ _. s)
      (λ u. let g = s.good d.selected in choose _ (record { address = g.address; home = g.home; count = g.count; size = g.size; built = left (unbuilt_mode x) _ u })))
      (λ _. either W (eqb n 11) (λ _. s)
      (λ _. either W (ltb n 15) (λ _. s) (λ _. masks_sound x)))))))))
    where
      n : ℕ
      n = r % 16

      left : (p q : Bool) → (p or q) ≡ false → p ≡ false
      left true q h = absurd (true≢false h)
      left false q h = refl
