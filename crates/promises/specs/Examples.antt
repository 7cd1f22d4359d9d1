-- The twelve worked examples: each a tape from reset, with the answers to its last records as they are expected. One statement says of
-- the whole table that the definitions give just these answers. (Numbers are decimal here; the comments have them as the sheets do.)
use Rattle.std.specs.Prelude.{ℕ, ◌*◌, ◌-◌, ◌≡◌, List, [], ◌∷◌, ◌++◌, map, length, drop, replicate}
use Rattle.board.specs.Wiring.{fresh_of}
use Rattle.board.specs.Records.{after}
use Rattle.promises.specs.Records.{writing, reading, setting, acknowledging, advancing, cycling, joined}

-- An answer: status, operation, data, levels; then the first bytes of its payload, and zeros up to twelve.
abbrev pub answer : ℕ → ℕ → ℕ → ℕ → List ℕ → List ℕ
answer status op x levels payload =
    status ∷ op ∷ x ∷ levels ∷ payload ++ replicate (12 - length payload) 0

pub record Example : Type 0 where
  pub tape : List (List ℕ)
  pub answers : List (List ℕ)

-- What a board gives that was just reset, over four bytes of memory: the answers to as many of the last records as are expected.
unfoldable pub answered : Example → List ℕ
answered e =
    drop (16 * (length e.tape - length e.answers))
    (after fresh_of (replicate 4 0) (joined e.tape) (length e.tape)).answers

unfoldable pub expected : Example → List ℕ
expected e = joined e.answers

-- Ports: 0 and 1 are the interrupt chip's, 16 to 19 (10H-13H) the timer's, 32 (20H) and on the DMA chip's.
unfoldable pub twelve : List Example
twelve =
    -- 1. Vector mode, IW2 40H, level 3: 43H.
    record {
      tape = writing 0 19 ∷ writing 1 64 ∷ writing 1 1 ∷ setting 0 8 ∷ acknowledging ∷ [];
      answers = answer 0 4 67 0 [] ∷ [];
    }
    -- 2. IW1 B6H, IW2 12H, level 3: CDH ACH 12H.
    ∷ record {
      tape = writing 0 182 ∷ writing 1 18 ∷ setting 0 8 ∷ acknowledging ∷ [];
      answers = answer 0 4 0 0 (205 ∷ 172 ∷ 18 ∷ []) ∷ [];
    }
    -- 3. IW1 B2H, with the same IW2 and level: CDH 98H 12H.
    ∷ record {
      tape = writing 0 178 ∷ writing 1 18 ∷ setting 0 8 ∷ acknowledging ∷ [];
      answers = answer 0 4 0 0 (205 ∷ 152 ∷ 18 ∷ []) ∷ [];
    }
    -- 4. Levels 5 and then 2 are acknowledged; FI without a level (20H) ends 2. ISR (MCW 0BH) reads 20H: level 5 is still there.
    ∷ record {
      tape =
          writing 0 18 ∷ writing 1 0 ∷ setting 0 32 ∷ acknowledging ∷ setting 0 36 ∷ acknowledging ∷ writing 0 32 ∷ writing 0 11 ∷ reading 0 ∷ [];
      answers = answer 0 2 32 0 [] ∷ [];
    }
    -- 5. Level 2 is made lowest (C2H), 2 and 3 are requested: level 3 is taken.
    ∷ record {
      tape = writing 0 19 ∷ writing 1 64 ∷ writing 1 1 ∷ writing 0 194 ∷ setting 0 12 ∷ acknowledging ∷ [];
      answers = answer 0 4 67 0 [] ∷ [];
    }
    -- 6. Mode 0, count 3: OUT0 is low after three pulses and rises at the fourth.
    ∷ record {
      tape = writing 19 16 ∷ writing 16 3 ∷ advancing 3 ∷ advancing 1 ∷ [];
      answers = answer 0 5 0 0 [] ∷ answer 0 5 0 1 (1 ∷ []) ∷ [];
    }
    -- 7. Mode 2, count 3, ten pulses: OUT0 rose three times and is high.
    ∷ record {
      tape = writing 19 20 ∷ writing 16 3 ∷ advancing 10 ∷ [];
      answers = answer 0 5 0 1 (3 ∷ []) ∷ [];
    }
    -- 8. Mode 2: count 1 is refused with 6, and count 2 is taken. OUT0 is high all the while.
    ∷ record {
      tape = writing 19 20 ∷ writing 16 1 ∷ writing 16 2 ∷ [];
      answers = answer 6 1 0 1 [] ∷ answer 0 1 0 1 [] ∷ [];
    }
    -- 9. Channel 0, single, device to memory (44H), count 0, unmasked (0EH): one unit of 41H is the end and stops the service; the count
    -- reads FFH FFH, the masks 0FH.
    ∷ record {
      tape = writing 42 68 ∷ writing 47 14 ∷ setting 2 1 ∷ cycling 0 ∷ cycling 65 ∷ reading 34 ∷ reading 35 ∷ reading 47 ∷ [];
      answers =
          answer 0 6 65 0 (2 ∷ 0 ∷ 1 ∷ 1 ∷ [])
          ∷ answer 0 2 255 0 []
          ∷ answer 0 2 255 0 []
          ∷ answer 0 2 15 0 []
          ∷ [];
    }
    -- 10. The same with count 1 at address FFFFFFH: the unit is there, past the four bytes of memory, so byte 12 is 1; the next address
    -- reads 00H 00H 00H.
    ∷ record {
      tape =
          writing 34 1
          ∷ writing 36 255
          ∷ writing 37 255
          ∷ writing 38 255
          ∷ writing 42 68
          ∷ writing 47 14
          ∷ setting 2 1
          ∷ cycling 0
          ∷ cycling 65
          ∷ reading 36
          ∷ reading 37
          ∷ reading 38
          ∷ [];
      answers =
          answer 0 6 65 0 (2 ∷ 0 ∷ 0 ∷ 1 ∷ 255 ∷ 255 ∷ 255 ∷ 0 ∷ 1 ∷ [])
          ∷ answer 0 2 0 0 []
          ∷ answer 0 2 0 0 []
          ∷ answer 0 2 0 0 []
          ∷ [];
    }
    -- 11. 65,536 pulses are refused with 2.
    ∷ record { tape = advancing 65536 ∷ []; answers = answer 2 5 0 0 [] ∷ [] }
    -- 12. Mode 0, count 1, two pulses, byte for byte.
    ∷ record {
      tape =
          (1 ∷ 19 ∷ 16 ∷ 0 ∷ 0 ∷ 0 ∷ 0 ∷ 0 ∷ [])
          ∷ (1 ∷ 16 ∷ 1 ∷ 0 ∷ 0 ∷ 0 ∷ 0 ∷ 0 ∷ [])
          ∷ (5 ∷ 0 ∷ 0 ∷ 0 ∷ 2 ∷ 0 ∷ 0 ∷ 0 ∷ [])
          ∷ [];
      answers =
          (0 ∷ 1 ∷ replicate 14 0) ∷ (0 ∷ 1 ∷ replicate 14 0) ∷ (0 ∷ 5 ∷ 0 ∷ 1 ∷ 1 ∷ replicate 11 0) ∷ [];
    }
    ∷ []

abbrev pub Examples : Type 0
Examples = map answered twelve ≡ map expected twelve
