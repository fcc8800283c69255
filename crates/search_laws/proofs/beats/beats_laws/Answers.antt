use Rattle.search_laws.proofs.BeatLemmas.{beats_through, never_beats, one_unbeaten, unbeaten_covers}
use Rattle.search_laws.proofs.beats.beats_laws.Goals as goal

pub returns : goal.returns
returns c = record { never = never_beats; through = beats_through; covered = unbeaten_covers; one = one_unbeaten }
