-- What a reader of records has read of a text.
use Rattle.std.specs.Prelude.{ℕ, ◌≡◌, ◌<◌, true, List, Option, Some}
use Rattle.csv.specs.Reading.{Reached, Ready, default_config, source_of, strip_bom}
use Rattle.csv.specs.declared.iter.StringRecordsIntoIter.{StringRecordsIntoIter}
use Rattle.csv.specs.declared.parser.State.TheVariants.{StartRecord}
use Rattle.csv.specs.declared.reader.Trim.TheVariants as trim
use Rattle.profile_set.specs.Members.{Fields}

-- the reader takes records of each length in csv's own setting, and has read these records of the bytes
pub record HasRead {R : Type 0} (rem : R → Option (List ℕ)) (bytes : List ℕ) (it : StringRecordsIntoIter R) (done : List Fields) : Type 0 where
  pub plain : it.rdr.trim ≡ trim.None
  pub ready : Ready it.rdr
  pub left : 0 < it.left
  pub config : it.rdr.config ≡ default_config
  pub flexible : it.rdr.flexible ≡ true
  pub rest : List ℕ
  pub source : source_of rem it.rdr ≡ Some rest
  pub reached : Reached default_config StartRecord (strip_bom bytes) done it.rdr.state rest
