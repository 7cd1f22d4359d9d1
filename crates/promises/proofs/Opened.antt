-- To unfold `rules` is to unfold every rule of the chips and the board: a closed tape then computes.
use Prim.Native.Nat.{ℕ}
use Rattle.bits.specs.Bits as BitsBits
use Rattle.bits.specs.Choice as BitsChoice
use Rattle.icu.specs.Ranks as IcuRanks
use Rattle.icu.specs.Requests as IcuRequests
use Rattle.icu.specs.Service as IcuService
use Rattle.icu.specs.Words as IcuWords
use Rattle.cascade.specs.Cascade as CascadeCascade
use Rattle.timer.specs.Mode0 as TimerMode0
use Rattle.timer.specs.Mode1 as TimerMode1
use Rattle.timer.specs.Mode2 as TimerMode2
use Rattle.timer.specs.Mode3 as TimerMode3
use Rattle.timer.specs.Mode4 as TimerMode4
use Rattle.timer.specs.Mode5 as TimerMode5
use Rattle.timer.specs.Modes as TimerModes
use Rattle.timer.specs.Ports as TimerPorts
use Rattle.timer.specs.Pulse as TimerPulse
use Rattle.timer.specs.Timer as TimerTimer
use Rattle.dma.specs.Cycle as DmaCycle
use Rattle.dma.specs.Registers as DmaRegisters
use Rattle.tape.specs.Answers as TapeAnswers
use Rattle.tape.specs.Records as TapeRecords
use Rattle.board.specs.Advance as BoardAdvance
use Rattle.board.specs.Operations as BoardOperations
use Rattle.board.specs.Records as BoardRecords
use Rattle.board.specs.Step as BoardStep
use Rattle.board.specs.Wiring as BoardWiring
use Rattle.intake.specs.Feed as IntakeFeed
use Rattle.intake.specs.Ranges as IntakeRanges
use Rattle.intake.specs.Records as IntakeRecords

unfoldable pub rules : ℕ
unfolding BitsBits.bit_of BitsBits.with_of BitsBits.without_of BitsBits.masked_of BitsChoice.every BitsChoice.some IcuRanks.rank_of IcuRanks.highest_from IcuRanks.highest_of IcuRequests.irr_of IcuRequests.asked_of IcuRequests.int_of IcuRequests.lines_of IcuService.served_of IcuService.vector_of IcuService.call_low_of IcuService.acknowledge_of IcuService.read_of IcuWords.reset_of IcuWords.iw1 IcuWords.later_word IcuWords.mcw IcuWords.finished IcuWords.pfcw IcuWords.write_of CascadeCascade.joined_of CascadeCascade.answerer_of CascadeCascade.answered CascadeCascade.passed_on TimerPorts.mode_set TimerPorts.mode_word TimerPorts.latch_word TimerPorts.control_of TimerPorts.completed TimerPorts.count_of TimerPorts.begun TimerPorts.write_of TimerPorts.held TimerPorts.read_of TimerMode0.pulse0 TimerMode1.pulse1 TimerMode2.pulse2 TimerMode3.pulse3 TimerMode4.pulse4 TimerMode5.pulse5 TimerModes.mode_of TimerModes.moded TimerPulse.pulse_of TimerPulse.gate_of TimerTimer.resets_of TimerTimer.wrote_by TimerTimer.got_by TimerTimer.controls_of TimerTimer.writes_of TimerTimer.reads_of TimerTimer.pulses_of TimerTimer.gates_of TimerTimer.outs_of DmaCycle.ready DmaCycle.channel_at DmaCycle.winner_from DmaCycle.nothing_of DmaCycle.granted_of DmaCycle.released_of DmaCycle.moved_of DmaCycle.unit_of DmaCycle.cycle_of DmaRegisters.reset_of DmaRegisters.requested_of DmaRegisters.any_words DmaRegisters.initialized_of DmaRegisters.selected_of DmaRegisters.replaced_of DmaRegisters.loaded_of DmaRegisters.controlled_of DmaRegisters.unbuilt_mode DmaRegisters.refuses_mode DmaRegisters.moded_of DmaRegisters.masked_by DmaRegisters.write_of DmaRegisters.byte_at DmaRegisters.shown_span DmaRegisters.read_of TapeAnswers.answer_of TapeRecords.unused TapeRecords.writable TapeRecords.readable TapeRecords.lines_asked TapeRecords.pulse_count TapeRecords.decode_of BoardAdvance.tick_of BoardAdvance.advanced_of BoardAdvance.advance_of BoardOperations.slave_written BoardOperations.slave_shown BoardOperations.slave_gives BoardOperations.acknowledge_of BoardOperations.timer_written BoardOperations.timer_shown BoardOperations.dma_written BoardOperations.dma_shown BoardOperations.write_of BoardOperations.read_of BoardOperations.cycle_of BoardOperations.cycle_memory BoardStep.execute_of BoardStep.memory_after BoardStep.blocked BoardStep.outcome_of BoardStep.memory_of BoardStep.answered_of BoardStep.step_of BoardStep.step_memory BoardWiring.fresh_of BoardWiring.lines_at BoardWiring.levels_of BoardRecords.after IntakeFeed.taken IntakeFeed.fed_of IntakeFeed.fed_memory IntakeFeed.fed_answers IntakeRanges.iw1_good IntakeRanges.icu_good IntakeRanges.counter_good IntakeRanges.timer_good IntakeRanges.channel_good IntakeRanges.channels_good IntakeRanges.dma_good IntakeRanges.in_range BoardRecords.record_at IntakeRecords.rest_at
rules = 0
