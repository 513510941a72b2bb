use Rattle.std.proofs.lemmas.Slice.Eq.{bytes_eq-Decides}
use Rattle.std.proofs.lemmas.Bool.Decides.{same_from_decides}
use Rattle.std.specs.Str.{bytes_eq}
use Rattle.paths.specs.Bytes.{path_bytes}
use Rattle.histories.proofs.Search.{found_position}
use Rattle.histories.proofs.keys.find_path.Goals as goal

pub returns : goal.returns
returns g c =
    let bytes = path_bytes c.args.path in
    found_position (λ row. row.key) (λ held. bytes_eq held bytes) _ c.args.rows.now c.find.result c.find.ensures
    (λ row b e. same_from_decides _ b (bytes_eq-Decides row.key bytes) e)
