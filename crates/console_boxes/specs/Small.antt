-- What stands behind 1 where the small box is asked of a title that it does not know (docs/CONSOLE.md, "Refusals").
use Rattle.std.specs.Prelude.{ℕ, List, ◌++◌}
use Rattle.text.specs.Texts.{text}
use Rattle.text.specs.Digits.{decimal}
use Rattle.rom_table.specs.Table.{rom_floor, rom_cap}

unfoldable pub small_text : List ℕ
small_text =
    (((text ", the small box has floor " ++ decimal rom_floor) ++ text " and cap ") ++ decimal rom_cap) ++ text " alone"
