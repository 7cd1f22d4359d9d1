-- Two interrupt chips, the slave's INT on line 7 of the master: how they are wired, which set-ups answer an acknowledge, who gives the bytes, what each chip does, and when line 7
-- follows. Each chip keeps to the rules of one chip alone (`icu`); `board` puts these together for its records (Operations.antt).
use Rattle.std.specs.Prelude.{ℕ, Bool, true, false, not, eqb, if◌then◌else◌}
use Rattle.bits.specs.Choice.{◌and◌}
use Rattle.bits.specs.Bits.{with_of}
use Rattle.icu.specs.declared.Icu.{Icu}
use Rattle.icu.specs.Words.{ready, sngl}
use Rattle.icu.specs.Answers.{Told}
use Rattle.icu.specs.Requests.{int_of, lines_of}
use Rattle.icu.specs.Service.{takes, served_of, acknowledge_of}
use Rattle.cascade.specs.declared.SetUp.{SetUp}
use Rattle.cascade.specs.declared.SetUp.TheVariants.{Unready, Single, Extended}
use Rattle.cascade.specs.declared.Answerer.{Answerer}
use Rattle.cascade.specs.declared.Answerer.TheVariants.{Nobody, Master, Both}

-- IW3. The master's has a bit for each line that a slave is on: 80H. The slave's has the number of the line that it is on: 07H.
abbrev pub master_iw3 : ℕ
master_iw3 = 128

abbrev pub slave_iw3 : ℕ
slave_iw3 = 7

-- INTP as the master has them: line 7 is high if INTP7 is or the slave's INT is. The slave has its own eight lines.
unfoldable pub joined_of : ℕ → Icu → ℕ → ℕ
joined_of intp s slaveintp = if int_of s slaveintp then with_of intp 7 else intp

-- How a chip is set up. It counts as single or extended, by SNGL of IW1, once it is ready.
abbrev pub set_up_of : Icu → SetUp
set_up_of c = if ready c then (if sngl c then Single else Extended) else Unready

-- Which set-ups answer an acknowledge: nobody, and it is out of turn; the master alone, to which the slave's INT is a line like others; or both, where they agree on the
-- bytes (alike: both in vector mode, or both in CALL mode). The master's set-up comes first, then the slave's.
abbrev pub answerer_by : SetUp → SetUp → Bool → Answerer
answerer_by Unready s alike = Nobody
answerer_by Single Unready alike = Master
answerer_by Single Single alike = Master
answerer_by Single Extended alike = Nobody
answerer_by Extended Unready alike = Nobody
answerer_by Extended Single alike = Nobody
answerer_by Extended Extended true = Both
answerer_by Extended Extended false = Nobody

abbrev pub alike : Icu → Icu → Bool
alike c s = if c.vector then s.vector else not s.vector

unfoldable pub answerer_of : Icu → Icu → Answerer
answerer_of c s = answerer_by (set_up_of c) (set_up_of s) (alike c s)

-- Some chip answers.
abbrev pub somebody : Answerer → Bool
somebody Nobody = false
somebody Master = true
somebody Both = true

unfoldable pub answered : Icu → Icu → Bool
answered c s = somebody (answerer_of c s)

-- The master takes level 7: its INT is high, and of the levels asked for 7 is the highest-ranked.
abbrev pub takes7 : Icu → ℕ → Bool
takes7 c lines = int_of c lines and eqb (takes c lines) 7

-- The slave gives the bytes: both answer, and the master takes level 7. For levels 0 to 6, and with the master's INT low, the master gives its own, and the slave is left alone.
abbrev pub together : Answerer → Bool
together Nobody = false
together Master = false
together Both = true

unfoldable pub passed_on : Icu → ℕ → Icu → Bool
passed_on c lines s = together (answerer_of c s) and takes7 c lines

-- What each chip does with an acknowledge that is passed on. The master does what it does for any level that it takes, here 7. The slave acknowledges by its own rules, also where it has nothing to
-- offer, and what it tells are the bytes.
abbrev pub master_serves : Icu → Icu
master_serves c = served_of c 7

abbrev pub slave_answers : Icu → ℕ → Told
slave_answers s slaveintp = acknowledge_of s slaveintp

-- How line 7 follows: the master sees its eight lines go from what they were to what they are, once. `board` does so at the end of each record that writes to the slave, moves its lines or passes an acknowledge on, as it
-- does where INTP, the gates or a write to the timer move a line; an advance shows OUT0 pulse by pulse, and moves no other line. So where the slave's INT was high and is high there is no new rise, and nothing makes it blink.
abbrev pub follows : Icu → ℕ → ℕ → Icu
follows c was now = lines_of c was now
