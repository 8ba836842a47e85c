-- What `list_theorem` assumes does happen: with the sample's image and table, at document 01's capacity, every list of calls
-- is in its main case, and with a broken image or a wrong table in its other two. (What the theorems on calls, fresh and
-- batches assume happens in the tables of Cases.antt.)
-- Assumes nothing.
use Prim.Native.Nat.{ℕ}
use mathlib.Core.Path.{◌≡◌, refl}
use mathlib.Core.Bool.{true}
use Rattle.std.specs.Prelude.{None}
use mathlib.Core.List.{List, [], ◌∷◌, ◌++◌, append-nil}
use lib.ListN.{replicate}
use Rattle.rewriting.specs.Lists.{prefix}
use Rattle.rewriting.specs.Sample.{sample}
use Rattle.rewriting.proofs.Lists.{prefix_append}
use Rattle.layout.specs.Image.{image_of, read}
use Rattle.layout.specs.Refusals.{refusal}
use Rattle.layout.proofs.Image.{read_image}
use Rattle.layout.proofs.ImageComputed.{sample-valid, longer_refused}
use Rattle.layout.specs.Table.{table_of}
use Rattle.machine.specs.Calls.{Call, sized, freshened, fresh_of}
use Rattle.machine.specs.Promise.{Kept, AllRefused}
use Rattle.machine.specs.Areas.{document_capacity}
use Rattle.cases.specs.Cases.{fresh}
use Rattle.machine.proofs.ListTheorem.{list_theorem}

abbrev area : List ℕ
area = replicate document_capacity 7

-- a fresh that is not refused
fresh-taken : (fresh_of document_capacity area area).refused ≡ None
unfolding fresh_of freshened sized refusal
fresh-taken = refl

sample_table_lem : prefix (table_of (read (image_of sample))) (table_of sample) ≡ true
sample_table_lem = rw read_image (rw append-nil at (prefix_append (table_of sample) []))

-- every list of calls on the sample
pub sample_kept : (calls : List Call) → Kept document_capacity (image_of sample) (table_of sample) fresh calls
unfolding fresh
sample_kept calls =
    rw (sample-valid, sample_table_lem) at
    (list_theorem document_capacity (image_of sample) (table_of sample) area area calls fresh-taken)

-- an image with a byte too many
pub sample_broken :
    (table : List ℕ) (calls : List Call) → AllRefused 7 document_capacity (image_of sample ++ 0 ∷ []) table fresh calls
unfolding fresh
sample_broken table calls =
    rw (longer_refused 0) at
    (list_theorem document_capacity (image_of sample ++ 0 ∷ []) table area area calls fresh-taken)

-- no table
pub sample_untabled : (calls : List Call) → AllRefused 9 document_capacity (image_of sample) [] fresh calls
unfolding fresh table_of
sample_untabled calls =
    rw sample-valid at (list_theorem document_capacity (image_of sample) [] area area calls fresh-taken)
