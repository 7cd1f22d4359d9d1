-- What holds in all six modes.
use mathlib.Core.Path.{◌≡◌, refl, sym, ap, ◌∙◌}
use mathlib.Core.List.{List}
use mathlib.Core.Bool.{Bool, true, false, not, true≢false}
use Prim.Native.Nat.{ℕ, ◌/◌, ◌%◌, ◌<◌}
use lib.Dec.{eqb}
use Rattle.std.specs.Prelude.{if◌then◌else◌}
use Rattle.timer.specs.declared.Counter.{Counter}
use Rattle.timer.specs.Modes.{moded}
use Rattle.timer.specs.Ports as Ports
use Rattle.timer.specs.Ports.{held}
use Rattle.timer.specs.Fields.{latched_is, second_is}
use Rattle.timer.specs.Timer.{at}
use Rattle.board.specs.declared.Board.{Board}
use Rattle.board.specs.Records.{after}
use Rattle.promises.specs.Words.{data_in}
use Rattle.promises.specs.TaughtWords.{read_at, Reads}
use Rattle.promises.specs.Modes.{Modes}
use Rattle.promises.proofs.Advances.{counter_alone, rises_alone}
use Rattle.promises.proofs.Loads.{is_there}
use Rattle.promises.proofs.HalfRead.{after_kept, still_set, read_as_told}
use Rattle.promises.proofs.Statuses.{read_status}

-- What a read answers, by the fields that it goes by.
abbrev shown : ℕ → Bool → ℕ → ℕ
shown format second x =
    if eqb format 1 then x % 256 else if eqb format 2 then x / 256 else if second then x / 256 else x % 256

read_byte : (c : Counter) → (Ports.read_of c).byte ≡ (if moded c then shown c.format c.second (held c) else 0)
unfolding Ports.read_of
read_byte c = go (moded c) (eqb c.format 1) (eqb c.format 2) c.second
  where
    low : ℕ
    low = held c % 256

    high : ℕ
    high = held c / 256

    go : (v f g h : Bool)
        → (if v then
        (if f then Ports.read_as low (latched_is false c)
        else if g then Ports.read_as high (latched_is false c)
        else if h then Ports.read_as high (second_is false (latched_is false c))
        else Ports.read_as low (second_is true c))
        else Ports.refused 3 c).byte
        ≡ (if v then (if f then low else if g then high else if h then high else low) else 0)
    go true true g h = refl
    go true false true h = refl
    go true false false true = refl
    go true false false false = refl
    go false f g h = refl

-- With the bus free, a read of a latched counter is taken, and answers by its format, its reading place and its latch.
module _ (b : Board) (m : List ℕ) (n : ℕ) (few : n < 3) (free : b.dma.serving ≡ false) (set : moded (at b.timer n) ≡ true) (l : (at b.timer n).latched ≡ true) where
  abbrev c : Counter
  c = at b.timer n

  told : Reads b m n (Ports.read_of c).byte (Ports.read_of c).counter.second
  told =
      let ok : (Ports.read_of c).status ≡ 0 = read_status c ∙ ap (λ (q : Bool). if not q then 3 else 0) set in
      read_as_told b m n few free (is_there b.timer n (λ e. true≢false (sym l ∙ ap (λ (d : Counter). d.latched) e))) (Ports.read_of c) refl ok

  reads_latch : data_in (read_at b m n).answer ≡ shown c.format c.second c.latch
  unfolding held
  reads_latch =
      told.answers
      ∙ read_byte c
      ∙ ap (λ (q : Bool). if q then shown c.format c.second (held c) else 0) set
      ∙ ap (λ (q : Bool). shown c.format c.second (if q then c.latch else c.value)) l

pub modes : Modes
modes =
    record {
      no_other_counter = λ b m n k few h. (counter_alone b m n k few h, rises_alone b m n k few h);
      latch_holds = λ b m s n k few set l u.
          let c = at b.timer n in
          let r = after b m s k in
          let d = at r.board.timer n in
          let q = after_kept b m s n k few u in (
            q.latched l,
            q.latch l,
            λ free last. (
              (told r.board r.memory n few last (still_set c d q set) (q.latched l)).taken,
              reads_latch r.board r.memory n few last (still_set c d q set) (q.latched l)
                  ∙ ap (λ (f : ℕ). shown f d.second d.latch) q.format
                  ∙ ap (λ (p : Bool). shown c.format p d.latch) q.second
                  ∙ ap (λ (x : ℕ). shown c.format c.second x) (q.latch l)
                  ∙ sym (reads_latch b m n few free set l),
            ),
          );
    }
