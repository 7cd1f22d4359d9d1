-- The worked boards, by computing; and what is taught, said of them.
use mathlib.Core.Path.{◌≡◌, refl, sym, ap, subst}
use mathlib.Core.List.{List, [], ◌∷◌, ◌++◌}
use mathlib.Core.Bool.{true, false}
use Prim.Native.Nat.{ℕ, zero, suc, ◌<◌}
use native.Mathlib.Omega.{arith}
use lib.Dec.{eqb}
use lib.ListN.{replicate}
use Rattle.bits.specs.Choice.{every}
use Rattle.bits.proofs.Every.{alike}
use Rattle.timer.specs.Timer.{at}
use Rattle.board.specs.declared.Board.{Board}
use Rattle.board.specs.Wiring.{fresh_of}
use Rattle.board.specs.Records.{record_at, after}
use Rattle.intake.specs.Feed.{fed_memory, fed_answers}
use Rattle.promises.specs.Records.{setting, pulsing, cycling, joined}
use Rattle.promises.specs.Table.{formed, uses, among, unanswered}
use Rattle.promises.specs.Words.{answer_at, answers_in, units_of, data_in, Highest, asked_for, Calm, CalmFrom, Further, none as none_more, call, asks}
use Rattle.promises.specs.Reached.{Reached, unfed, fed}
use Rattle.promises.specs.TaughtWords.{low_byte, reloads_next, Clocks, a_pulse, the_gates, Unread, read_at, plain_cycle, Alone}
use Rattle.promises.specs.Waves.{Loaded}
use Rattle.promises.specs.Chopped.{Lump, called, lump_by_lump, joined_tape, Room, Each, none as no_call, call as call-with}
use Rattle.promises.specs.Worked.{chopped as chopped-tape, first_lump, empty_lump, last_lumps, one_lump, seven_and_five, rising, setup, further, memory, board, short, again, ones, word_tape, own_widths, timing, dividing, pulses, armed, started, retriggering, starting, halved, between, latched, busy, requesting, waiting, serving, cycles, bouncing, beating, ticking, masking, outranked, both_set, cascading, idling, deaf, calling, Worked}
use Rattle.promises.proofs.Opened.{rules}
use Rattle.promises.proofs.Sizes.{are_bytes, small_bytes, reached_typed}
use Rattle.promises.proofs.Chopped.{chopped}
use Rattle.promises.proofs.Taught.{taught}
use Rattle.promises.proofs.Modes.{modes}
use Rattle.promises.proofs.Withdrawn.{withdrawn}
use Rattle.promises.proofs.Meant.{meant}
use Rattle.promises.proofs.Requested.{reached_fit}
use Rattle.promises.proofs.Taken.{highest_asked}
use Rattle.promises.proofs.Cascade.{cascade}

calm : Calm board memory further 5
unfolding rules setup further memory board answer_at answers_in units_of joined
calm zero h = refl
calm (suc zero) h = refl
calm (suc (suc zero)) h = refl
calm (suc (suc (suc zero))) h = refl
calm (suc (suc (suc (suc zero)))) h = refl
calm (suc (suc (suc (suc (suc i))))) h = absurd (omega arith)

calm_inside : CalmFrom 5 fresh_of memory (setup ++ further) 10
unfolding rules setup further memory answer_at answers_in units_of joined
calm_inside (suc (suc (suc (suc (suc zero))))) h l = refl
calm_inside (suc (suc (suc (suc (suc (suc zero)))))) h l = refl
calm_inside (suc (suc (suc (suc (suc (suc (suc zero))))))) h l = refl
calm_inside (suc (suc (suc (suc (suc (suc (suc (suc zero)))))))) h l = refl
calm_inside (suc (suc (suc (suc (suc (suc (suc (suc (suc zero))))))))) h l = refl
calm_inside (suc (suc (suc (suc (suc (suc (suc (suc (suc (suc i)))))))))) h l = absurd (omega (arith, l))
calm_inside zero h l = absurd (omega (arith, h))
calm_inside (suc zero) h l = absurd (omega (arith, h))
calm_inside (suc (suc zero)) h l = absurd (omega (arith, h))
calm_inside (suc (suc (suc zero))) h l = absurd (omega (arith, h))
calm_inside (suc (suc (suc (suc zero)))) h l = absurd (omega (arith, h))

after_refused : Further board memory (answers_in (fed_answers board further memory (replicate 80 0)) 5 ++ []) (fed_memory board further memory 80)
unfolding rules setup further memory board joined
after_refused = call {b = board} {m = memory} further (replicate 80 0) calm none_more

with_room : (b : Board) (m : List ℕ) (l : Lump) (more : List Lump) → Room b m l → Each Room (called b m l).board (called b m l).memory more → Each Room b m (l ∷ more)
with_room b m l more r e = call-with r e

roomy : Each Room fresh_of memory (first_lump ∷ empty_lump ∷ last_lumps)
unfolding rules setup further memory chopped-tape first_lump empty_lump last_lumps joined
roomy =
    with_room fresh_of memory first_lump _ (omega arith) (with_room _ _ empty_lump _ (omega arith) (with_room _ _ _ _ (omega arith) (with_room _ _ _ _ (omega arith) no_call)))

each : (i : ℕ) → i < 2 → Clocks (record_at pulses i)
unfolding rules pulses joined
each zero h = a_pulse
each (suc zero) h = a_pulse
each (suc (suc i)) h = absurd (omega arith)

none : (i : ℕ) → i < 2 → record_at pulses i ≡ pulsing → reloads_next (at (after dividing [] pulses i).board.timer 0) ≡ false
unfolding rules dividing pulses joined
none zero h e = refl
none (suc zero) h e = refl
none (suc (suc i)) h e = absurd (omega arith)

clocked : (i : ℕ) → i < 3 → Clocks (record_at retriggering i)
unfolding rules retriggering joined
clocked zero h = a_pulse
clocked (suc zero) h = the_gates 0 (omega arith)
clocked (suc (suc zero)) h = the_gates 2 (omega arith)
clocked (suc (suc (suc i))) h = absurd (omega arith)

untaken : (i : ℕ) → i < 3 → record_at retriggering i ≡ pulsing → reloads_next (at (after started [] retriggering i).board.timer 1) ≡ false
unfolding rules armed started retriggering joined
untaken zero h e = refl
untaken (suc zero) h e = refl
untaken (suc (suc zero)) h e = refl
untaken (suc (suc (suc i))) h e = absurd (omega arith)

waves_from : (m : ℕ) → m < 6 → Loaded m 5 (at (after fresh_of [] (starting m) 5).board.timer 0)
unfolding rules starting joined
waves_from zero h = record { mode = refl; count = refl; value = refl; odd = λ e. absurd (omega (arith, e)); out = refl; full = refl; pending = refl; trigger = refl; whole = λ _. refl; gate = refl }
waves_from (suc zero) h = record { mode = refl; count = refl; value = refl; odd = λ e. absurd (omega (arith, e)); out = refl; full = refl; pending = refl; trigger = refl; whole = λ _. refl; gate = refl }
waves_from (suc (suc zero)) h = record { mode = refl; count = refl; value = refl; odd = λ e. absurd (omega (arith, e)); out = refl; full = refl; pending = refl; trigger = refl; whole = λ _. refl; gate = refl }
waves_from (suc (suc (suc zero))) h = record { mode = refl; count = refl; value = refl; odd = λ _. refl; out = refl; full = refl; pending = refl; trigger = refl; whole = λ _. refl; gate = refl }
waves_from (suc (suc (suc (suc zero)))) h = record { mode = refl; count = refl; value = refl; odd = λ e. absurd (omega (arith, e)); out = refl; full = refl; pending = refl; trigger = refl; whole = λ _. refl; gate = refl }
waves_from (suc (suc (suc (suc (suc zero))))) h = record { mode = refl; count = refl; value = refl; odd = λ e. absurd (omega (arith, e)); out = refl; full = refl; pending = refl; trigger = refl; whole = λ _. refl; gate = refl }
waves_from (suc (suc (suc (suc (suc (suc m)))))) h = absurd (omega (arith, h))

quiet : Unread 0 (read_at halved [] 0).board [] between 2
unfolding rules halved between joined
quiet zero h = refl
quiet (suc zero) h = refl
quiet (suc (suc i)) h = absurd (omega arith)

unread : Unread 0 latched [] busy 4
unfolding rules latched busy joined
unread zero h = refl
unread (suc zero) h = refl
unread (suc (suc zero)) h = refl
unread (suc (suc (suc zero))) h = refl
unread (suc (suc (suc (suc i)))) h = absurd (omega arith)

plain : (i : ℕ) → i < 6 → plain_cycle (record_at cycles i) ≡ true
unfolding rules cycles formed uses among every joined
plain i h = alike (λ i. plain_cycle (record_at cycles i)) (λ _. true) 6 tt i h

alone : Alone waiting.dma 0
unfolding rules waiting requesting every joined
alone i h = alike (λ i. asks waiting.dma i) (λ i. eqb i 0) 4 tt i h

reached_waiting : Reached waiting
unfolding waiting requesting joined are_bytes
reached_waiting = fed (joined (requesting 68)) [] 64 (small_bytes (joined (requesting 68)) refl) (small_bytes [] refl) unfed

reached_serving : Reached serving
unfolding serving requesting joined are_bytes
reached_serving =
    fed (joined (requesting 4 ++ cycling 7 ∷ [])) [] 80 (small_bytes (joined (requesting 4 ++ cycling 7 ∷ [])) refl) (small_bytes [] refl) unfed

reached_cascading : Reached cascading
unfolding cascading both_set joined are_bytes
reached_cascading = fed (joined (both_set ++ setting 3 4 ∷ [])) [] 144 (small_bytes (joined (both_set ++ setting 3 4 ∷ [])) refl) (small_bytes [] refl) unfed

reached_idling : Reached idling
unfolding idling both_set joined are_bytes
reached_idling = fed (joined (both_set ++ setting 0 128 ∷ [])) [] 144 (small_bytes (joined (both_set ++ setting 0 128 ∷ [])) refl) (small_bytes [] refl) unfed

-- Level 7 is the one that is taken.
seventh : Highest (asked_for idling) idling.icu.lowest 7
unfolding rules idling both_set joined
seventh = let q = highest_asked idling (reached_fit reached_idling) refl in subst (Highest (asked_for idling) idling.icu.lowest) (sym q.2) q.1

pub worked : Worked
unfolding rules chopped-tape first_lump empty_lump last_lumps one_lump seven_and_five rising lump_by_lump joined_tape setup further memory board short again ones word_tape own_widths timing dividing pulses armed started retriggering halved between latched busy requesting waiting serving cycles bouncing beating ticking masking outranked answer_at answers_in units_of joined are_bytes among unanswered both_set cascading idling deaf calling
worked =
    record {
      reached = fed setup memory 80 (small_bytes setup refl) (small_bytes memory refl) unfed;
      calm = calm;
      units = refl;
      bytes = refl;
      calm_inside = calm_inside;
      units_inside = refl;
      fallen = refl;
      landed = refl;
      read_back = refl;
      told_too = refl;
      verified = (refl, refl);
      word_units = refl;
      word_uppers = refl;
      half_fallen = refl;
      word_bytes = refl;
      narrow_refused = refl;
      narrow_reset = refl;
      wide_reset = refl;
      narrow_write = refl;
      word_downwards = refl;
      word_mode_refused = refl;
      word_read = (refl, refl, refl);
      word_verified = (refl, refl, refl);
      byte_on_wide = (refl, refl);
      word_again = (refl, refl, refl, refl);
      own_widths_law = (refl, refl);
      refused_call = refl;
      after_refused = after_refused;
      roomy = roomy;
      over_an_empty_lump = refl;
      in_lumps = (chopped.in_lumps fresh_of refl (reached_typed unfed) memory first_lump (empty_lump ∷ last_lumps) one_lump refl roomy (omega arith)).2;
      lumps_memory = refl;
      lumps_kept = refl;
      cleared = refl;
      rises_of_one = refl;
      rises_at_the_cut = refl;
      rises_after_it = refl;
      loaded = (taught.mode_count_pulse fresh_of [] 1 116 5 2 (omega arith) refl refl refl refl refl).1;
      rewritten = taught.count_pulse timing [] 2 4 4 (omega arith) refl refl refl (low_byte refl) refl;
      evenly = (taught.mode_count_pulse fresh_of [] 0 22 5 0 (omega arith) refl refl refl refl refl).1;
      untriggered = (taught.mode_count_pulse fresh_of [] 0 18 5 0 (omega arith) refl refl refl refl refl).1;
      waited = (taught.later_count_waits dividing [] pulses 0 5 5 2 (omega arith) refl refl refl refl (low_byte refl) refl each none refl).1 refl;
      unstarted = taught.untriggered_waits armed [] 1 3 (omega arith) (omega arith) refl refl refl;
      triggered = taught.trigger_pulse armed [] 1 2 (omega arith) refl refl refl (omega arith) refl;
      retriggered = (taught.later_count_waits started [] retriggering 1 4 4 3 (omega arith) refl refl refl refl (low_byte refl) refl clocked untaken refl).1 refl;
      waves_from = waves_from;
      half_read = ((taught.half_read_waits halved [] 0 (omega arith) refl refl refl refl).1 between 2 quiet refl).answers;
      still_latched = ((modes.latch_holds latched [] busy 0 4 (omega arith) refl refl unread).2 refl refl).1;
      waiting_reached = reached_waiting;
      serving_reached = reached_serving;
      singly = ((taught.single_moves_one_more {b = waiting} reached_waiting [] cycles 0 2 (omega arith) refl refl alone refl refl plain).0 3 (omega arith)).0;
      pressed =
          (withdrawn.from_reset [] bouncing (small_bytes bouncing refl) 4 3 (omega arith) refl).1
          (refl, record { at = 3; before = omega arith; ready = refl; rises = refl; since = λ j l g. absurd (omega arith) });
      bounced = refl;
      answered_7 = ap data_in ((meant.spurious (after fresh_of [] bouncing 5).board [] refl refl refl).2.vector refl);
      none_served = refl;
      beat = refl;
      beat_over = refl;
      next_beat =
          (withdrawn.from_reset [] beating (small_bytes beating refl) 6 0 (omega arith) refl).1
          (refl, record { at = 5; before = omega arith; ready = refl; rises = refl; since = λ j l g. absurd (omega arith) });
      tick_taken = refl;
      tick_again =
          (withdrawn.from_reset [] ticking (small_bytes ticking refl) 6 0 (omega arith) refl).1
          (refl, record { at = 5; before = omega arith; ready = refl; rises = refl; since = λ j l g. absurd (omega arith) });
      masked_7 = ap data_in ((meant.spurious (after fresh_of [] masking 7).board [] refl refl refl).2.vector refl);
      still_masked = (refl, refl);
      outranked_7 = ap data_in ((meant.spurious (after fresh_of [] outranked 6).board [] refl refl refl).2.vector refl);
      still_served = refl;
      cascading_reached = reached_cascading;
      offered = refl;
      both_served = (refl, refl);
      slave_finished = (refl, refl);
      idling_reached = reached_idling;
      idle_7 = ap data_in (((cascade.passed_on_law reached_idling [] refl refl refl refl seventh).idle refl).0.vector refl);
      idle_stays = refl;
      master_int = (refl, refl);
      deaf_7 = (refl, refl);
      slave_call = refl;
      unready_3 = refl;
      demanded = (taught.held_moves_one_more {b = serving} reached_serving [] cycles 0 2 refl refl refl refl (λ i l. plain i (omega arith))).0;
    }
