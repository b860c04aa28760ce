use Rattle.hdfs_ec.proofs.ShareBytes.{lengths_make_up, share_is_long}
use Rattle.hdfs_ec.proofs.ShareCells.{cells_make_up}
use Rattle.hdfs_ec.proofs.SharePlaces.{byte_is_at}
use Rattle.hdfs_ec.proofs.schema.shares_make_up_the_group.Goals as goal

pub returns : goal.returns
returns c = record {
  lengths = lengths_make_up;
  long = share_is_long;
  places = byte_is_at;
  cells = λ cell units rows group some e. cells_make_up cell units some rows group e;
}
