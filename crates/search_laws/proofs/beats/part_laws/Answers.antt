use Rattle.search_laws.proofs.BeatLemmas.{list_part, part_list}
use Rattle.search_laws.proofs.beats.part_laws.Goals as goal

pub returns : goal.returns
returns c known candidates some list normal part left =
    (part_list known candidates some list normal part left, list_part known candidates some list normal part left)
