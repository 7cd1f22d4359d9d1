-- What is taught is so.
use mathlib.Core.Path.{◌≡◌, refl, sym, ap, ◌∙◌}
use mathlib.Core.Bool.{true, false, not}
use Prim.Native.Nat.{ℕ, suc, ◌+◌, ◌-◌, ◌/◌, ◌%◌, ◌<◌}
use native.Mathlib.Omega.{arith}
use lib.Dec.{eqb}
use lib.ListN.{get_or, length}
use borrow.Author.Tests.{eqb-true, eqb-false, eq-eqb, ne_eqb, not-true}
use Rattle.bits.specs.Bits.{bit_of, without_of}
use Rattle.icu.specs.declared.Icu.{Icu}
use Rattle.icu.specs.Fields.{isr_is, imr_is}
use Rattle.icu.specs.Requests.{irr_of}
use Rattle.timer.specs.declared.Counter.{Counter}
use Rattle.timer.specs.declared.Timer.{Timer}
use Rattle.timer.specs.Fields.{second_is, latched_is}
use Rattle.timer.specs.Ports as Ports
use Rattle.timer.specs.Modes.{moded}
use Rattle.timer.specs.Ports.{Answer, read_as}
use Rattle.timer.specs.Pulse.{pulse_of, gate_of}
use Rattle.timer.specs.Timer.{at}
use Rattle.dma.specs.Fields.{chan}
use Rattle.board.specs.declared.Board.{Board}
use Rattle.board.specs.Wiring.{icu_is}
use Rattle.board.specs.Step.{step_of}
use Rattle.promises.specs.Records.{writing, reading, setting}
use Rattle.promises.specs.TaughtWords.{writing_of, reading_of, value_of, format_in, read_at, later}
use Rattle.promises.specs.Taught.{Taught}
use Rattle.promises.proofs.Logic.{both_left, both_right}
use Rattle.promises.proofs.Runs.{reached_sound}
use Rattle.promises.proofs.BoardKept.{reached_held}
use Rattle.promises.proofs.Highest.{highest_of_law, cleared}
use Rattle.promises.proofs.IcuKept.{bit_of_law}
use Rattle.promises.proofs.Counters.{writes_reading, reads_writing, reads_value}
use Rattle.promises.proofs.Plain.{write_leaves, read_leaves, mask_written, irr_read, finish_written, finish_status, finished_is, finished_none, value_stays, pulsed, gates_set, pulse_at, gate_at, loads_nothing}
use Rattle.promises.proofs.Advances.{counter_alone}
use Rattle.promises.proofs.Block.{Goes, going, moved, stopped, shut}
use Rattle.promises.proofs.Requested.{reached_fit, irr_bit, masked_rise_shows}
use Rattle.promises.proofs.Taken.{ready_asks}
use Rattle.promises.proofs.Loads as loads
use Rattle.promises.proofs.HalfRead as half
use Rattle.promises.proofs.Units as units

pub taught : Taught
unfolding irr_of value_of moded Ports.held
taught =
    record {
      finish_clears_one = λ {b} r m free set x l h n top.
          let e : (step_of b (writing 0 x) m).board ≡ icu_is (isr_is (without_of b.icu.isr n) b.icu) b =
          finish_written b m free set x l h ∙ ap (λ (c : Icu). icu_is c b) (finished_is b.icu n (reached_held r).icu.lowest top) in (
            e,
            λ k q. ap (λ (d : Board). bit_of d.icu.isr k) e ∙ cleared b.icu.isr n k (reached_held r).icu.isr top.level q,
          );
      one_is_highest = λ {b} r ne.
          let h = (reached_held r).icu in
          let q = bit_of_law b.icu.isr h.isr ne in
          highest_of_law b.icu.isr b.icu.lowest q.0 h.lowest q.1 q.2;
      finish_of_none = λ b m free set x l h e. (
        finish_written b m free set x l h ∙ ap (λ (c : Icu). icu_is c b) (finished_none b.icu e),
        finish_status b m free set x l h,
      );
      masking_hides_nothing = λ {b} r m free set irr x. (
        ap (λ (d : Board). get_or (step_of d (reading 0) m).answer 2 0) (mask_written b m free set x)
            ∙ irr_read (icu_is (imr_is x b.icu) b) m free set irr
            ∙ sym (irr_read b m free set irr),
        λ k l. ap (λ (v : ℕ). bit_of v k) (irr_read b m free set irr) ∙ irr_bit b (reached_fit r) k l,
      );
      masked_rise_shows = masked_rise_shows;
      write_loads_nothing = loads_nothing;
      only_pulses_load = λ b m r n h z p. value_stays b m n h r z p;
      mode_count_pulse = λ b m n w x y few free three word built o.
          let sc : w / 64 ≡ n = eqb-true (w / 64) n (both_left (eqb (w / 64) n) (not (eqb (format_in w) 0)) word) in
          let f = eqb-false (format_in w) 0 (not-true (eqb (format_in w) 0) (both_right (eqb (w / 64) n) (not (eqb (format_in w) 0)) word)) in
          let there : n < length b.timer.counters = rw three few in
          loads.by_tape b m free n w x y few there sc built (format_in w) refl f o;
      untriggered_waits = λ b m n k few h w p t.
          let c = at b.timer n in
          ap (λ (d : Counter). d.value) (counter_alone b m n k few h) ∙ (loads.still_waits c w p t k).0.value;
      count_pulse = λ b m n x N few free set t k u.
          let c = at b.timer n in
          let h : loads.Holds b n c = record { free = free; there = loads.present b.timer n (loads.complete_format c x N k); counter = refl } in
          loads.next_pulse b m m n few c h set t x N k u;
      trigger_pulse = λ b m n l few w f g k high.
          let c = at b.timer n in
          let e : at (step_of b (setting 1 l) m).board.timer n ≡ gate_of c true =
          ap (λ (t : Timer). at t n) (gates_set b m l k) ∙ gate_at b.timer n few l ∙ ap (gate_of c) high in
          ap (λ (t : Timer). (at t n).value) (pulsed (step_of b (setting 1 l) m).board m)
          ∙ ap (λ (d : Counter). d.value) (pulse_at (step_of b (setting 1 l) m).board.timer n few)
          ∙ ap (λ (d : Counter). (pulse_of d).value) e
          ∙ loads.trigger_loads c w f g;
      later_count_waits = λ b m s n x N j few free set full t k u clocks none last.
          let c = at b.timer n in
          let runs = loads.runs_so c set full t in
          let e = loads.taken_as c set x N k u in
          let h : loads.Holds b n c = record { free = free; there = loads.present b.timer n (loads.complete_format c x N k); counter = refl } in
          let apart : at (step_of b (writing (16 + n) x) m).board.timer n ≡ loads.beside N c =
          (loads.count_lands b m n few c h x (ap (λ (a : Answer). a.status) e)).counter ∙ ap (λ (a : Answer). a.counter) e ∙ loads.waits_beside c runs N in (
            λ i l. ap (λ (d : Counter). d.value) (loads.go_beside b (step_of b (writing (16 + n) x) m).board m s n N j few runs apart clocks none last i l).1,
            loads.load_takes b (step_of b (writing (16 + n) x) m).board m s n N j few runs apart clocks none last set,
          );
      read_moves_no_write = λ b m p n. (
        read_leaves b m (λ (t : Timer). writing_of (at t n)) p (reads_writing b.timer n p),
        read_leaves b m (λ (t : Timer). value_of (at t n)) p (reads_value b.timer n p),
      );
      first_byte_waits = λ b m n x few free set f k.
          let h : loads.Holds b n (at b.timer n) = record { free = free; there = loads.present b.timer n (omega (arith, f)); counter = refl } in
          ap writing_of (loads.first_byte_law b m n few (at b.timer n) h set x f k).counter ∙ loads.kept_apart (at b.timer n) x;
      write_moves_no_read = λ b m p x n l h.
          write_leaves b m (λ (t : Timer). reading_of (at t n)) p x (λ _. writes_reading b.timer n p x (ne_eqb (p % 4) 3 (omega arith)));
      half_read_waits = λ b m n few free set both first.
          let c = at b.timer n in
          let there = loads.present b.timer n (omega (arith, both)) in
          let low = read_as (Ports.held c % 256) (second_is true c) in
          let e : Ports.read_of c ≡ low = half.first_read c set both first in
          let back = half.leaves b m n few free there low e refl in (
            half.read_as_told b m n few free there low e refl,
            λ s k u g.
                let l = later b m n s k in
                let d = at l.board.timer n in
                let q : half.Kept (second_is true c) d = rw back at (half.after_kept (read_at b m n).board m s n k few u) in
                half.read_as_told l.board l.memory n few g (loads.present l.board.timer n (omega (arith, q.format ∙ both)))
                (read_as (Ports.held d / 256) (second_is false (latched_is false d)))
                (half.second_read d (half.still_set (second_is true c) d q set) (q.format ∙ both) q.second)
                refl,
          );
      held_moves_one_more = λ {b} r m s k N sv ch on ct c.
          let t = reached_sound r in
          let q = (chan b.dma k).mode in
          let g : Goes b.dma k q N =
          record {
            left = record { four = t.four; few = rw ch at t.channel; mode = refl; count = ct; small = rw ct at (t.good k).count };
            serving = sv;
            channel = ch;
            on = on;
          } in (
            moved b m s k q N g c (suc N) (omega arith) ∙ omega arith,
            λ i h. (going b m s k q N g c i (N - i) (omega arith)).serving,
            stopped b m s k q N g c,
            shut b m s k q N g c,
          );
      single_moves_one_more = λ {b} r m s k N few idle on alone one ct c.
          let t = reached_sound r in
          let q = (chan b.dma k).mode in
          let w : units.Waits b.dma k q N =
          record {
            left = record { four = t.four; few = few; mode = refl; count = ct; small = rw ct at (t.good k).count };
            idle = idle;
            enabled = on;
            alone = λ i l. ready_asks b.dma i ∙ alone i l;
          } in
          let e = eq-eqb ((chan b.dma k).mode / 64) 1 one in (
            λ i h. (units.singly b m s k q N e w c i h, units.freed b m s k q N e w c i h),
            units.masked b m s k q N e w c,
          );
    }
