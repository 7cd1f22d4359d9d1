-- Each range is exact: its values are reached (Reaches.antt), and no reached board has another.
use Prim.Native.Nat.{ℕ, zero, suc, ◌/◌, ◌%◌, ◌<◌}
use mathlib.Core.Path.{◌≡◌, refl, sym, subst, ◌∙◌}
use mathlib.Core.Bool.{Bool, true, false, not, true≢false, false≢true}
use mathlib.Core.List.{[], ◌∷◌}
use native.Mathlib.Omega.{arith}
use lib.Dec.{eqb, ltb}
use borrow.Author.Tests.{eqb-true, eqb-false, ltb-true, ltb-false, eq-eqb, ne_eqb, lt-ltb}
use Rattle.bits.specs.Choice.{◌and◌, ◌or◌, every}
use Rattle.std.specs.Prelude.{if◌then◌else◌}
use Rattle.bits.specs.Bits.{bit_of}
use Rattle.bits.proofs.Every.{alike}
use Rattle.icu.specs.declared.Icu.{Icu}
use Rattle.timer.specs.declared.Counter.{Counter}
use Rattle.timer.specs.Timer.{at}
use Rattle.dma.specs.declared.Channel.{Channel}
use Rattle.dma.specs.Fields.{chan}
use Rattle.dma.specs.Registers.{unbuilt_mode}
use Rattle.board.specs.declared.Board.{Board}
use Rattle.intake.specs.Ranges.{iw1_good, icu_good, counter_good, timer_good, channel_good, channels_good, dma_good, in_range}
use Rattle.promises.specs.Table.{among}
use Rattle.promises.specs.Reached.{Reached, TypedIcu, Typed}
use Rattle.promises.proofs.Logic.{both_left, both_right}
use Rattle.promises.proofs.Runs.{sound_of, reached_sound}
use Rattle.promises.proofs.IcuKept.{Fine}
use Rattle.promises.proofs.BoardKept.{reached_held, reached_kept}
use Rattle.promises.proofs.Sizes.{reached_typed}
use Rattle.exact.specs.Exact.{Has, Exactly, Both, chip, iw1s, evens, modes, Within, Exact}
use Rattle.exact.proofs.Reaches as up

exactly : {f : Board → ℕ} {set : ℕ → Type 0} → ((v : ℕ) → set v → Has f v) → ((b : Board) → Reached b → set (f b)) → Exactly f set
exactly {set = set} reaches bound v = (λ h. subst set h.value (bound h.on h.reached), reaches v)

both : (f : Board → Bool) → ((v : ℕ) → v < 2 → Has (λ b. if f b then 1 else 0) v) → Both f
both f reaches = exactly reaches (λ b r. small (f b))
  where
    small : (q : Bool) → (if q then 1 else 0) < 2
    small true = omega arith
    small false = omega arith

-- A counter's mode and format, and a channel's mode.
abbrev mode_test : ℕ → Bool
mode_test v = ltb v 6 or eqb v 255

counter_is : {b : Board} → Reached b → (n : ℕ) → (ltb (at b.timer n).format 4 and mode_test (at b.timer n).mode) ≡ true
unfolding counter_good
counter_is r n = (reached_held r).timer n

format_is : {b : Board} → Reached b → (n : ℕ) → (at b.timer n).format < 4
format_is {b} r n = ltb-true _ 4 (both_left (ltb (at b.timer n).format 4) (mode_test (at b.timer n).mode) (counter_is r n))

mode_test_law : (v : ℕ) → among v (0 ∷ 1 ∷ 2 ∷ 3 ∷ 4 ∷ 5 ∷ 255 ∷ []) ≡ mode_test v
unfolding among every
mode_test_law v = go (ltb v 6) refl
  where
    last : (q : Bool) → (q or false) ≡ q
    last true = refl
    last false = refl

    go : (q : Bool) → ltb v 6 ≡ q → among v (0 ∷ 1 ∷ 2 ∷ 3 ∷ 4 ∷ 5 ∷ 255 ∷ []) ≡ (q or eqb v 255)
    go true q = alike (λ k. among k (0 ∷ 1 ∷ 2 ∷ 3 ∷ 4 ∷ 5 ∷ 255 ∷ [])) (λ _. true) 6 tt v (ltb-true v 6 q)
    go false q =
        let l = ltb-false v 6 q in
        rw (
          ne_eqb v 0 (omega arith),
          ne_eqb v 1 (omega arith),
          ne_eqb v 2 (omega arith),
          ne_eqb v 3 (omega arith),
          ne_eqb v 4 (omega arith),
          ne_eqb v 5 (omega arith),
        )
        (last (eqb v 255))

mode_is : {b : Board} → Reached b → (n : ℕ) → among (at b.timer n).mode (0 ∷ 1 ∷ 2 ∷ 3 ∷ 4 ∷ 5 ∷ 255 ∷ []) ≡ true
mode_is {b} r n =
    let v = (at b.timer n).mode in
    mode_test_law v ∙ both_right (ltb (at b.timer n).format 4) (mode_test v) (counter_is r n)

built : (v : ℕ) → unbuilt_mode v ≡ false → modes v ≡ true
unfolding unbuilt_mode bit_of
built v h = go (eqb (v / 64) 3) (eqb (v / 4 % 4) 3) (eqb (v / 2 % 2) 1) refl h
  where
    go : (p q w : Bool) → eqb (v / 2 % 2) 1 ≡ w → (p or q or w) ≡ false → (not p and not q and eqb (v / 2 % 2) 0) ≡ true
    go true q w e h = absurd (true≢false h)
    go false true w e h = absurd (true≢false h)
    go false false true e h = absurd (true≢false h)
    go false false false e h = eq-eqb (v / 2 % 2) 0 (omega (arith, eqb-false (v / 2 % 2) 1 e))

-- The test, and the sets.
unbuilt : (v : ℕ) → modes v ≡ true → unbuilt_mode v ≡ false
unfolding unbuilt_mode bit_of
unbuilt v h = go (eqb (v / 64) 3) (eqb (v / 4 % 4) 3) h
  where
    go : (p q : Bool) → (not p and not q and eqb (v / 2 % 2) 0) ≡ true → (p or q or eqb (v / 2 % 2) 1) ≡ false
    go true q h = absurd (false≢true h)
    go false true h = absurd (false≢true h)
    go false false h = ne_eqb (v / 2 % 2) 1 (omega (arith, eqb-true (v / 2 % 2) 0 h))

counter_good_law : (c : Counter) → c.format < 4 → among c.mode (0 ∷ 1 ∷ 2 ∷ 3 ∷ 4 ∷ 5 ∷ 255 ∷ []) ≡ true → counter_good c ≡ true
unfolding counter_good
counter_good_law c h k = rw (lt-ltb c.format 4 h) (sym (mode_test_law c.mode) ∙ k)

good_counter : (c : Counter) → counter_good c ≡ true → (c.format < 4) × (among c.mode (0 ∷ 1 ∷ 2 ∷ 3 ∷ 4 ∷ 5 ∷ 255 ∷ []) ≡ true)
unfolding counter_good
good_counter c h = (
  ltb-true c.format 4 (both_left (ltb c.format 4) (mode_test c.mode) h),
  mode_test_law c.mode ∙ both_right (ltb c.format 4) (mode_test c.mode) h,
)

channel_good_law : (c : Channel) → c.current.address < 16777216 → c.base.address < 16777216 → modes c.mode ≡ true → channel_good c ≡ true
unfolding channel_good
channel_good_law c a h k = rw (lt-ltb c.current.address 16777216 a, lt-ltb c.base.address 16777216 h, unbuilt c.mode k)

-- An interrupt chip in its ranges; and either chip of a board, by what holds of each.
record ChipWithin (c : Icu) : Type 0 where
  stage : c.stage < 5
  lowest : c.lowest < 8
  iw1 : iw1s c.iw1 ≡ true

good_chip : (c : Icu) → icu_good c ≡ true → ChipWithin c
unfolding icu_good iw1_good
good_chip c h =
    let k = both_right (ltb c.stage 5) _ h in
    record {
      stage = ltb-true _ _ (both_left (ltb c.stage 5) _ h);
      lowest = ltb-true _ _ (both_left (ltb c.lowest 8) _ k);
      iw1 = both_right (ltb c.lowest 8) _ k;
    }

chip_good : (c : Icu) → c.stage < 5 → c.lowest < 8 → iw1s c.iw1 ≡ true → icu_good c ≡ true
unfolding icu_good iw1_good
chip_good c s l w = rw (lt-ltb c.stage 5 s, lt-ltb c.lowest 8 l, w)

of_each : (P : Icu → Type 0) (b : Board) → P b.icu → P b.slave → (n : ℕ) → P (chip n b)
of_each P b p q n = by (eqb n 0)
  where
    by : (k : Bool) → P (if k then b.icu else b.slave)
    by true = p
    by false = q

module _ (b : Board) (t : Typed b) where
  within : in_range b ≡ true → Within b
  unfolding in_range timer_good
  within h =
      let h1 = both_right (ltb b.kept.length 8) _ h in
      let h2 = both_right (evens b.intp) _ h1 in
      let h3 = both_right (icu_good b.icu) _ h2 in
      let h4 = both_right (icu_good b.slave) _ h3 in
      let chips = of_each ChipWithin b (good_chip b.icu (both_left (icu_good b.icu) _ h2)) (good_chip b.slave (both_left (icu_good b.slave) _ h3)) in
      let c = both_left (timer_good b.timer) _ h4 in
      let c1 = both_right (counter_good (at b.timer 0)) _ c in
      let d = sound_of b t h in
      record {
        stage = λ n l. (chips n).stage;
        iw1 = λ n l. (chips n).iw1;
        lowest = λ n l. (chips n).lowest;
        intp = both_left (evens b.intp) _ h1;
        mode = λ n l. (counters c c1 n l).1;
        format = λ n l. (counters c c1 n l).0;
        address = λ n l. (d.good n).address;
        base_address = λ n l. (d.good n).home;
        channel_mode = λ n l. built (chan b.dma n).mode (d.good n).built;
        selected = d.selected;
        first = d.first;
        channel = d.channel;
        requests = d.requests;
        ends = d.ends;
        kept_length = ltb-true _ _ (both_left (ltb b.kept.length 8) _ h);
      }
    where
      counters : (counter_good (at b.timer 0) and counter_good (at b.timer 1) and counter_good (at b.timer 2)) ≡ true
          → (counter_good (at b.timer 1) and counter_good (at b.timer 2)) ≡ true
          → (n : ℕ)
          → n < 3
          → ((at b.timer n).format < 4) × (among (at b.timer n).mode (0 ∷ 1 ∷ 2 ∷ 3 ∷ 4 ∷ 5 ∷ 255 ∷ []) ≡ true)
      counters p q zero l = good_counter (at b.timer 0) (both_left (counter_good (at b.timer 0)) _ p)
      counters p q (suc zero) l = good_counter (at b.timer 1) (both_left (counter_good (at b.timer 1)) (counter_good (at b.timer 2)) q)
      counters p q (suc (suc zero)) l = good_counter (at b.timer 2) (both_right (counter_good (at b.timer 1)) (counter_good (at b.timer 2)) q)
      counters p q (suc (suc (suc n))) l = absurd (omega arith)

  passes : Within b → in_range b ≡ true
  unfolding in_range timer_good dma_good channels_good
  passes w =
      rw (
        lt-ltb b.kept.length 8 w.kept_length,
        w.intp,
        chip_good b.icu (w.stage 0 (omega arith)) (w.lowest 0 (omega arith)) (w.iw1 0 (omega arith)),
        chip_good b.slave (w.stage 1 (omega arith)) (w.lowest 1 (omega arith)) (w.iw1 1 (omega arith)),
        counter_of 0 (omega arith),
        counter_of 1 (omega arith),
        counter_of 2 (omega arith),
        lt-ltb b.dma.selected 4 w.selected,
        lt-ltb b.dma.first 4 w.first,
        lt-ltb b.dma.channel 4 w.channel,
        lt-ltb b.dma.requests 16 w.requests,
        lt-ltb b.dma.ends 16 w.ends,
        channel_at 0 (omega arith),
        channel_at 1 (omega arith),
        channel_at 2 (omega arith),
        channel_at 3 (omega arith),
      )
    where
      counter_of : (n : ℕ) → n < 3 → counter_good (at b.timer n) ≡ true
      counter_of n l = counter_good_law (at b.timer n) (w.format n l) (w.mode n l)

      channel_at : (n : ℕ) → n < 4 → channel_good (chan b.dma n) ≡ true
      channel_at n l = channel_good_law (chan b.dma n) (w.address n l) (w.base_address n l) (w.channel_mode n l)

fine : {b : Board} → Reached b → (n : ℕ) → Fine (chip n b)
fine {b} r = of_each Fine b (reached_held r).icu (reached_held r).slave

wide : {b : Board} → Reached b → (n : ℕ) → TypedIcu (chip n b)
wide {b} r = of_each TypedIcu b (reached_typed r).icu (reached_typed r).slave

pub exact : Exact
unfolding iw1_good
exact =
    record {
      tested = λ b t. (within b t, passes b t);
      stage = λ n l. exactly (λ v h. up.stage n v l h) (λ b r. (fine r n).stage);
      iw1 = λ n l. exactly (λ v h. up.iw1 n v l h.0 h.1) (λ b r. ((wide r n).iw1, (fine r n).iw1));
      iw2 = λ n l. exactly (λ v h. up.iw2 n v l h) (λ b r. (wide r n).iw2);
      sfi = λ n l. both (λ b. (chip n b).sfi) (up.sfi n l);
      vector = λ n l. both (λ b. (chip n b).vector) (up.vector n l);
      rotation = λ n l. both (λ b. (chip n b).rotation) (up.rotation n l);
      showsisr = λ n l. both (λ b. (chip n b).showsisr) (up.showsisr n l);
      edges = λ n l. exactly (λ v h. up.edges n v l h) (λ b r. (wide r n).edges);
      isr = λ n l. exactly (λ v h. up.isr n v l h) (λ b r. (wide r n).isr);
      imr = λ n l. exactly (λ v h. up.imr n v l h) (λ b r. (wide r n).imr);
      lowest = λ n l. exactly (λ v h. up.lowest n v l h) (λ b r. (fine r n).lowest);
      intp = exactly (λ v h. up.intp v h.0 h.1) (λ b r. ((reached_typed r).intp, (reached_held r).intp));
      slaveintp = exactly up.slaveintp (λ b r. (reached_typed r).slaveintp);
      mode = λ n l. exactly (λ v h. up.mode n v l h) (λ b r. mode_is r n);
      format = λ n l. exactly (λ v h. up.format n v l h) (λ b r. format_is r n);
      value = λ n l. exactly (λ v h. up.value n v l h) (λ b r. (reached_typed r).value n);
      count = λ n l. exactly (λ v h. up.count n v l h) (λ b r. (reached_typed r).count n);
      latch = λ n l. exactly (λ v h. up.latch n v l h) (λ b r. (reached_typed r).latch n);
      low = λ n l. exactly (λ v h. up.low n v l h) (λ b r. (reached_typed r).low n);
      full = λ n l. both (λ b. (at b.timer n).full) (λ v h. up.full n v l h);
      pending = λ n l. both (λ b. (at b.timer n).pending) (λ v h. up.pending n v l h);
      trigger = λ n l. both (λ b. (at b.timer n).trigger) (λ v h. up.trigger n v l h);
      half = λ n l. both (λ b. (at b.timer n).half) (λ v h. up.half n v l h);
      latched = λ n l. both (λ b. (at b.timer n).latched) (λ v h. up.latched n v l h);
      second = λ n l. both (λ b. (at b.timer n).second) (λ v h. up.second n v l h);
      gate = λ n l. both (λ b. (at b.timer n).gate) (λ v h. up.gate n v l h);
      out = λ n l. both (λ b. (at b.timer n).out) (λ v h. up.out n v l h);
      odd = λ n l. both (λ b. (at b.timer n).odd) (λ v h. up.odd n v l h);
      address = λ n l. exactly (λ v h. up.address n v l h) (λ b r. ((reached_sound r).good n).address);
      base_address = λ n l. exactly (λ v h. up.base_address n v l h) (λ b r. ((reached_sound r).good n).home);
      current_count = λ n l. exactly (λ v h. up.units n v l h) (λ b r. ((reached_sound r).good n).count);
      base_count = λ n l. exactly (λ v h. up.base_units n v l h) (λ b r. ((reached_sound r).good n).size);
      channel_mode = λ n l. exactly (λ v h. up.channel_mode n v l h.0 h.1)
          (λ b r. ((reached_typed r).mode n, built (chan b.dma n).mode ((reached_sound r).good n).built));
      masked = λ n l. both (λ b. (chan b.dma n).masked) (λ v h. up.masked n v l h);
      wide = both (λ b. b.dma.wide) up.wide;
      selected = exactly up.selected (λ b r. (reached_sound r).selected);
      base = both (λ b. b.dma.base) up.base;
      rotate = both (λ b. b.dma.rotate) up.rotate;
      disabled = both (λ b. b.dma.disabled) up.disabled;
      serving = both (λ b. b.dma.serving) up.serving;
      first = exactly up.first (λ b r. (reached_sound r).first);
      channel = exactly up.channel (λ b r. (reached_sound r).channel);
      requests = exactly up.requests (λ b r. (reached_sound r).requests);
      ends = exactly up.ends (λ b r. (reached_sound r).ends);
      kept_byte = λ i l. exactly (λ v h. up.kept_byte i v l h) (λ b r. (reached_typed r).kept i);
      kept_length = exactly up.kept_length (λ b r. reached_kept r);
    }
