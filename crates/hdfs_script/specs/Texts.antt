-- The text that a session's replies and its fault are printed as.
use Rattle.std.specs.Prelude.{ℕ, zero, suc, ◌+◌, ◌/◌, ◌%◌, nat_lt, Bool, true, false, List, [], ◌∷◌, ◌++◌, length, codes, decimal, if◌then◌else◌}
use Rattle.hex.specs.Hex.{encode_lower}
use Rattle.hdfs_model.specs.declared.commands.PathEntry.{PathEntry}
use Rattle.hdfs_model.specs.declared.commands.Reply.{Reply}
use Rattle.hdfs_model.specs.declared.commands.Reply.TheVariants as replies
use Rattle.hdfs_model.specs.declared.commands.Fault.{Fault}
use Rattle.hdfs_cluster.specs.declared.errors.HdfsError.{HdfsError}
use Rattle.hdfs_cluster.specs.declared.errors.HdfsError.TheVariants as errors

-- bytes in lower-case hexadecimal digits, `-` for none
abbrev pub hex_text : List ℕ → List ℕ
hex_text [] = codes "-"
hex_text (byte ∷ bytes) = encode_lower (byte ∷ bytes)

-- the line of bytes that were read
abbrev pub bytes_line : List ℕ → List ℕ
bytes_line bytes = codes "ok bytes " ++ hex_text bytes ++ codes "\n"

-- the line of bytes that were written: how many they are
abbrev pub written_line : ℕ → List ℕ
written_line count = codes "ok written " ++ decimal count ++ codes "\n"

-- at most so many octal digits of a number, before others
abbrev pub octal_before : ℕ → ℕ → List ℕ → List ℕ
octal_before zero n behind = behind
octal_before (suc more) n behind = if nat_lt n 8 then (48 + n) ∷ behind else octal_before more (n / 8) ((48 + n % 8) ∷ behind)

-- the octal digits of a number below 2^32, which are at most eleven
unfoldable pub octal : ℕ → List ℕ
octal n = octal_before 11 n []

-- that there is a file, and its length
abbrev pub length_text : ℕ → List ℕ
length_text size = codes "ok info file " ++ decimal size ++ codes " "

-- the replication and the block size of a file
abbrev pub sizes_text : ℕ → ℕ → List ℕ
sizes_text replication block_size = codes " " ++ decimal replication ++ codes " " ++ decimal block_size ++ codes "\n"

-- the line of what stands at a path: `dir`; or `file`, its length, its permission bits in octal digits, its replication and its block size
abbrev pub info_line : Bool → ℕ → ℕ → ℕ → ℕ → List ℕ
info_line true size permission replication block_size = codes "ok info dir\n"
info_line false size permission replication block_size = length_text size ++ (octal permission ++ sizes_text replication block_size)

-- whether an entry is a directory
abbrev pub kind_text : Bool → List ℕ
kind_text true = codes "dir "
kind_text false = codes "file "

-- the line of an entry: `dir` or `file`, and its path
abbrev pub entry_line : PathEntry → List ℕ
entry_line entry = kind_text entry.isdir ++ entry.path ++ codes "\n"

-- a line for each entry
abbrev pub entries_text : List PathEntry → List ℕ
entries_text [] = []
entries_text (entry ∷ rest) = entry_line entry ++ entries_text rest

-- the line of how many entries a listing has
abbrev pub count_line : ℕ → List ℕ
count_line count = codes "ok list " ++ decimal count ++ codes "\n"

-- the lines of a listing: how many entries it has, and each of them
abbrev pub listed_text : List PathEntry → List ℕ
listed_text entries = count_line (length entries) ++ entries_text entries

-- the lines of a reply, one for all but a listing
abbrev pub reply_text : Reply → List ℕ
reply_text replies.Created = codes "ok created\n"
reply_text replies.Appended = codes "ok appended\n"
reply_text (replies.Written count) = written_line count
reply_text replies.Closed = codes "ok closed\n"
reply_text (replies.Bytes bytes) = bytes_line bytes
reply_text replies.Made = codes "ok made\n"
reply_text replies.Deleted = codes "ok deleted\n"
reply_text (replies.Info isdir size permission replication block_size) = info_line isdir size permission replication block_size
reply_text (replies.Listed entries) = listed_text entries

-- the lines of each reply
abbrev pub replies_text : List Reply → List ℕ
replies_text [] = []
replies_text (reply ∷ rest) = reply_text reply ++ replies_text rest

-- the name of an error, without what it carries
abbrev pub variant_name : HdfsError → List ℕ
variant_name errors.NoMemory = codes "NoMemory"
variant_name errors.Failed = codes "Failed"
variant_name (errors.IOError fault) = codes "IOError"
variant_name (errors.DataTransferError fault) = codes "DataTransferError"
variant_name (errors.InvalidPath path) = codes "InvalidPath"
variant_name (errors.InvalidArgument fault) = codes "InvalidArgument"
variant_name (errors.AlreadyExists message) = codes "AlreadyExists"
variant_name (errors.OperationFailed path) = codes "OperationFailed"
variant_name (errors.FileNotFound path) = codes "FileNotFound"
variant_name (errors.UnsupportedFeature feature) = codes "UnsupportedFeature"
variant_name (errors.RPCError class message) = codes "RPCError"
variant_name (errors.InvalidRPCResponse fault) = codes "InvalidRPCResponse"
variant_name (errors.FatalRPCError class message) = codes "FatalRPCError"

-- the line of a fault: the number of its command, and the error's name
abbrev pub fault_line : Fault → List ℕ
fault_line fault = codes "fault " ++ decimal fault.at ++ codes " " ++ variant_name fault.error ++ codes "\n"

-- the replies up to a fault, and its line
abbrev pub fault_text : Fault → List ℕ
fault_text fault = replies_text fault.done ++ fault_line fault

-- what is printed where the words or the script are refused: the number of a line
abbrev pub refusal_text : ℕ → List ℕ
refusal_text line = codes "bad " ++ decimal line ++ codes "\n"
