-- What a record asks for, with the bytes that it asks by.
use mathlib.Core.Path.{◌≡◌, refl, sym, ap, subst, ◌∙◌}
use mathlib.Core.Logic.{◌≢◌}
use mathlib.Core.List.{List}
use mathlib.Core.Bool.{Bool, true, false}
use Prim.Native.Nat.{ℕ, ◌/◌, ◌%◌, ◌<◌}
use native.Mathlib.Omega.{arith}
use borrow.Author.Tests.{ne_eqb}
use lib.Dec.{eqb, ltb, leb}
use Rattle.bits.specs.Choice.{◌and◌, every}
use Rattle.std.specs.Bool.{then_some}
use Rattle.std.specs.Prelude.{if◌then◌else◌, Option, Some, None}
use Rattle.bits.proofs.Every.{alike}
use Rattle.tape.specs.declared.Operation.{Operation}
use Rattle.tape.specs.declared.Operation.TheVariants.{Reset, Write, Read, Intp, Gates, Requests, SlaveIntp, Acknowledge, Advance, Cycle}
use Rattle.tape.specs.Records.{byte, unused, writable, readable, lines_asked, pulse_count, asked_if, decode_of}

-- A record is malformed, or asks for an operation by its number and with the bytes that this operation uses.
pub data Decodes (r : List ℕ) : Option Operation → Type 0 where
  malformed : Decodes r None
  reset : eqb (byte r 0) 0 ≡ true → Decodes r (Some Reset)
  write : eqb (byte r 0) 1 ≡ true → writable (byte r 1) ≡ true → Decodes r (Some (Write (byte r 1) (byte r 2)))
  read : eqb (byte r 0) 2 ≡ true → readable (byte r 1) ≡ true → Decodes r (Some (Read (byte r 1)))
  intp : eqb (byte r 0) 3 ≡ true → eqb (byte r 2 % 2) 0 ≡ true → Decodes r (Some (Intp (byte r 2)))
  gates : eqb (byte r 0) 3 ≡ true → ltb (byte r 2) 8 ≡ true → Decodes r (Some (Gates (byte r 2)))
  requests : eqb (byte r 0) 3 ≡ true → ltb (byte r 2) 16 ≡ true → Decodes r (Some (Requests (byte r 2)))
  slave_intp : eqb (byte r 0) 3 ≡ true → Decodes r (Some (SlaveIntp (byte r 2)))
  acknowledge : eqb (byte r 0) 4 ≡ true → Decodes r (Some Acknowledge)
  advance : eqb (byte r 0) 5 ≡ true → leb (pulse_count r) 65535 ≡ true → Decodes r (Some (Advance (pulse_count r)))
  cycle : eqb (byte r 0) 6 ≡ true → Decodes r (Some (Cycle (eqb (byte r 1) 1) (byte r 2) (byte r 3)))

-- One of two, by a test that is known on each side.
pub either : {A : Type 0} (P : A → Type 0) (q : Bool) {a b : A} → (q ≡ true → P a) → (q ≡ false → P b) → P (if q then a else b)
either P true f g = f refl
either P false f g = g refl

module _ (r : List ℕ) where
  -- an operation that fits by two tests
  both : (p q : Bool) {o : Operation} → (q ≡ true → Decodes r (Some o)) → Decodes r (asked_if (p and q) o)
  both true true f = f refl
  both true false f = malformed
  both false q f = malformed

  lines : eqb (byte r 0) 3 ≡ true → Decodes r (lines_asked (byte r 1) (byte r 2))
  unfolding lines_asked
  lines o =
      either (Decodes r) (eqb (byte r 1) 0)
      (λ g. either (Decodes r) (eqb (byte r 2 % 2) 0) (λ l. intp o l) (λ l. malformed))
      (λ _. either (Decodes r) (eqb (byte r 1) 1)
      (λ g. either (Decodes r) (ltb (byte r 2) 8) (λ l. gates o l) (λ l. malformed))
      (λ _. either (Decodes r) (eqb (byte r 1) 2)
      (λ g. either (Decodes r) (ltb (byte r 2) 16) (λ l. requests o l) (λ l. malformed))
      (λ _. either (Decodes r) (eqb (byte r 1) 3) (λ g. slave_intp o) (λ _. malformed))))

  pub decodes : Decodes r (decode_of r)
  unfolding decode_of
  decodes =
      either (Decodes r) (eqb (byte r 0) 0)
      (λ o. either (Decodes r) (unused r 1 7) (λ _. reset o) (λ _. malformed))
      (λ _. either (Decodes r) (eqb (byte r 0) 1)
      (λ o. both (unused r 3 5) (writable (byte r 1)) (write o))
      (λ _. either (Decodes r) (eqb (byte r 0) 2)
      (λ o. both (unused r 2 6) (readable (byte r 1)) (read o))
      (λ _. either (Decodes r) (eqb (byte r 0) 3)
      (λ o. either (Decodes r) (unused r 3 5) (λ _. lines o) (λ _. malformed))
      (λ _. either (Decodes r) (eqb (byte r 0) 4)
      (λ o. either (Decodes r) (unused r 1 7) (λ _. acknowledge o) (λ _. malformed))
      (λ _. either (Decodes r) (eqb (byte r 0) 5)
      (λ o. both (unused r 1 3) (leb (pulse_count r) 65535) (advance o))
      (λ _. either (Decodes r) (eqb (byte r 0) 6)
      (λ o. both (unused r 4 4) (leb (byte r 1) 1) (λ _. cycle o))
      (λ _. malformed)))))))

  -- there are the operations 0 to 6
  pub unknown : 6 < byte r 0 → decode_of r ≡ None
  unfolding decode_of
  unknown h =
      let n0 : byte r 0 ≢ 0 = omega (arith, h) in
      let n1 : byte r 0 ≢ 1 = omega (arith, h) in
      let n2 : byte r 0 ≢ 2 = omega (arith, h) in
      let n3 : byte r 0 ≢ 3 = omega (arith, h) in
      let n4 : byte r 0 ≢ 4 = omega (arith, h) in
      let n5 : byte r 0 ≢ 5 = omega (arith, h) in
      let n6 : byte r 0 ≢ 6 = omega (arith, h) in
      rw (ne_eqb _ _ n0, ne_eqb _ _ n1, ne_eqb _ _ n2, ne_eqb _ _ n3, ne_eqb _ _ n4, ne_eqb _ _ n5, ne_eqb _ _ n6)

-- What is asked for where a test holds, in the words of the definitions.
pub told : (q : Bool) (o : Operation) → then_some q o ≡ asked_if q o
told true o = refl
told false o = refl

-- A read asks for a port that is open to reads; so where it is the timer's, it is a counter's.
abbrev Open : Option Operation → Type 0
Open None = Unit
Open (Some Reset) = Unit
Open (Some (Write p x)) = Unit
Open (Some (Read p)) = readable p ≡ true
Open (Some (Intp l)) = Unit
Open (Some (Gates l)) = Unit
Open (Some (Requests l)) = Unit
Open (Some (SlaveIntp l)) = Unit
Open (Some Acknowledge) = Unit
Open (Some (Advance n)) = Unit
Open (Some (Cycle e x y)) = Unit

opened : (r : List ℕ) (d : Option Operation) → Decodes r d → Open d
opened r _ malformed = tt
opened r _ (reset _) = tt
opened r _ (write _ _) = tt
opened r _ (read _ h) = h
opened r _ (intp _ _) = tt
opened r _ (gates _ _) = tt
opened r _ (requests _ _) = tt
opened r _ (slave_intp _) = tt
opened r _ (acknowledge _) = tt
opened r _ (advance _ _) = tt
opened r _ (cycle _) = tt

control : (p : ℕ) → p < 256 → (readable p and eqb (p / 16) 1 and eqb (p % 4) 3) ≡ false
unfolding readable every
control p h = alike (λ p. readable p and eqb (p / 16) 1 and eqb (p % 4) 3) (λ p. false) 256 tt p h

pub read_counter : (r : List ℕ) (p : ℕ) → p < 256 → decode_of r ≡ Some (Read p) → eqb (p / 16) 1 ≡ true → eqb (p % 4) 3 ≡ false
read_counter r p h e chip =
    let o : readable p ≡ true = subst Open e (opened r (decode_of r) (decodes r)) in
    third (readable p) (eqb (p / 16) 1) (eqb (p % 4) 3) o chip (control p h)
  where
    third : (a b c : Bool) → a ≡ true → b ≡ true → (a and b and c) ≡ false → c ≡ false
    third a b c ha hb q = sym (ap (λ (x : Bool). x and c) hb) ∙ sym (ap (λ (x : Bool). x and b and c) ha) ∙ q
