-- A chopped tape is the tape.
use mathlib.Core.Path.{◌≡◌, sym, ap, ◌∙◌}
use mathlib.Core.List.{List, ◌++◌}
use Prim.Native.Nat.{ℕ}
use lib.ListN.{length}
use native.Mathlib.Omega.{arith}
use borrow.Author.Tests.{ltb-true}
use Rattle.board.specs.declared.Board.{Board}
use Rattle.promises.specs.Chopped.{Lump, Left, called, followed_by, second, Room, InTwo, Chopped}
use Rattle.promises.proofs.Runs.{tests}
use Rattle.promises.proofs.Fit.{Fit, fit_of, fit_fed}
use Rattle.promises.proofs.Lumps.{leaves, is_taken, called_is, leaves_both, lumps}
use Rattle.promises.proofs.EmptyCall.{empty_taken, empty_call, empty_buffer}
use Rattle.promises.proofs.Advances.{advance_in_two, no_pulse}
use Rattle.promises.proofs.AdvanceTapes.{in_a_tape}

module _ (b : Board) (f : Fit b) (m : List ℕ) (x y all : Lump) (cut : all.tape ≡ x.tape ++ y.tape) (rx : Room b m x) (ry : Room (called b m x).board (called b m x).memory y) (r : Room b m all) where
  abbrev g : Fit (called b m x).board
  g = fit_fed b x.tape m (length x.buffer) f

  same : followed_by (called b m x) (second b m x y) ≡ called b m all
  same =
      ap (followed_by (called b m x)) (called_is (called b m x).board (called b m x).memory y g ry)
      ∙ ap (λ (c : Left). followed_by c (leaves c.board c.memory y.tape)) (called_is b m x f rx)
      ∙ leaves_both b m x.tape y.tape f
      ∙ ap (leaves b m) (sym cut)
      ∙ sym (called_is b m all f r)

  pub in_two : InTwo b m x y all
  in_two =
      record {
        taken = (is_taken b m x f rx, is_taken (called b m x).board (called b m x).memory y g ry, is_taken b m all f r);
        records = ap (λ (c : Left). c.records) same;
        board = ap (λ (c : Left). c.board) same;
        memory = ap (λ (c : Left). c.memory) same;
        answers = ap (λ (c : Left). c.answers) same;
      }

pub chopped : Chopped
chopped =
    record {
      in_two = λ b h t m x y all. in_two b (fit_of b h t) m x y all;
      in_lumps = λ b h t m l more all cut e r.
          let f = fit_of b h t in
          let q = lumps b m l more f e in
          (q.0, is_taken b m all f r, q.1 ∙ ap (leaves b m) (sym cut) ∙ sym (called_is b m all f r));
      empty_lump = λ r m buffer. (empty_taken r m buffer, empty_call r m buffer, empty_buffer r m buffer);
      room_for = λ b h m l r. omega (arith, r, ltb-true b.kept.length 8 (tests b h).0);
      advance_in_two = advance_in_two;
      in_a_tape = λ b m s t i j k n h l. in_a_tape b m s t i j k n h l;
      no_pulse = no_pulse;
    }
