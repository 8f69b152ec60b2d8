-- A picture's head, with its sheet of classes and a hatching for each title, and its foot.
use Rattle.std.specs.Prelude.{ℕ, zero, suc, ◌+◌, List, [], ◌++◌}
use Rattle.rules.specs.Limits.{id_max}
use Rattle.text.specs.Texts.{text}
use Rattle.text.specs.Digits.{decimal}
use Rattle.drawing.specs.Pieces.{field_text}

-- the sheet: text and lines, dark on white
abbrev pub sheet_of_lines : List ℕ
sheet_of_lines =
    text "svg{max-width:100%;height:auto;background:#fff}\n"
    ++ text "text{font:12px sans-serif;fill:#222}\n"
    ++ text ".head{font-size:16px;font-weight:bold}\n"
    ++ text ".time{text-anchor:middle;font-size:11px}\n"
    ++ text ".right{text-anchor:end}\n"
    ++ text ".small{font-size:10px}\n"
    ++ text ".note{fill:#b00020}\n"
    ++ text "path{fill:none;stroke:#222}\n"
    ++ text ".axis{stroke:#222}\n"
    ++ text ".grid{stroke:#ddd}\n"
    ++ text ".limit{stroke:#b00020;stroke-dasharray:6 3}\n"
    ++ text ".plays{stroke:#222;stroke-width:1.5}\n"
    ++ text ".curve{stroke:#0b3d91;stroke-width:1.5}\n"

-- bands, events and refusals, by their number: b0 and b1 in turn, e and a kind, r and an answer
abbrev pub sheet_of_marks : List ℕ
sheet_of_marks =
    text "rect{fill:#222}\n"
    ++ text ".b0{fill:#f7f7f7}\n"
    ++ text ".b1{fill:#efefef}\n"
    ++ text ".d0{fill:#555;fill-opacity:.45}\n"
    ++ text "rect[class^='r']{fill:#d00020}\n"

-- what a title's id is drawn in: t where it is active, s where a lane still sends
abbrev pub sheet_of_titles : List ℕ
sheet_of_titles =
    text ".t0{fill:#0e6a91}.s0{fill:url(#h0);stroke:#0e6a91}\n"
    ++ text ".t1{fill:#fe8a84}.s1{fill:url(#h1);stroke:#fe8a84}\n"
    ++ text ".t2{fill:#0d9971}.s2{fill:url(#h2);stroke:#0d9971}\n"
    ++ text ".t3{fill:#473b9d}.s3{fill:url(#h3);stroke:#473b9d}\n"
    ++ text ".t4{fill:#efb448}.s4{fill:url(#h4);stroke:#efb448}\n"
    ++ text ".t5{fill:#028092}.s5{fill:url(#h5);stroke:#028092}\n"
    ++ text ".t6{fill:#f765a4}.s6{fill:url(#h6);stroke:#f765a4}\n"
    ++ text ".t7{fill:#1d5f02}.s7{fill:url(#h7);stroke:#1d5f02}\n"
    ++ text ".t8{fill:#a6cafd}.s8{fill:url(#h8);stroke:#a6cafd}\n"
    ++ text ".t9{fill:#b64a1f}.s9{fill:url(#h9);stroke:#b64a1f}\n"
    ++ text ".t10{fill:#10b5a7}.s10{fill:url(#h10);stroke:#10b5a7}\n"
    ++ text ".t11{fill:#893799}.s11{fill:url(#h11);stroke:#893799}\n"
    ++ text ".t12{fill:#9a920e}.s12{fill:url(#h12);stroke:#9a920e}\n"
    ++ text ".t13{fill:#01485d}.s13{fill:url(#h13);stroke:#01485d}\n"
    ++ text ".t14{fill:#fe97a3}.s14{fill:url(#h14);stroke:#fe97a3}\n"
    ++ text ".t15{fill:#059050}.s15{fill:url(#h15);stroke:#059050}\n"

-- the shades of lanes, neighbours one dark and one light
abbrev pub sheet_of_lanes : List ℕ
sheet_of_lanes =
    text ".l0{fill:#043875}.l1{fill:#eb734a}.l2{fill:#047339}.l3{fill:#e3b543}.l4{fill:#870368}.l5{fill:#15b0c9}\n"
    ++ text ".l6{fill:#cc3e49}.l7{fill:#bdd75d}.l8{fill:#095b7d}.l9{fill:#fe86a5}.l10{fill:#be6d17}.l11{fill:#14f0e6}\n"

unfoldable pub sheet : List ℕ
sheet = text "<style>\n" ++ sheet_of_lines ++ sheet_of_marks ++ sheet_of_titles ++ sheet_of_lanes ++ text "</style>\n"

-- the hatching of a title's id: stripes in its colour
unfoldable pub hatch_text : ℕ → List ℕ
hatch_text id =
    text "<pattern id='h" ++ decimal id
    ++ text "' width='6' height='6' patternUnits='userSpaceOnUse' patternTransform='rotate(45)'><rect class='t" ++ decimal id
    ++ text "' width='3' height='6'/></pattern>\n"

unfoldable pub hatches_text : ℕ → List ℕ
hatches_text zero = []
hatches_text (suc id) = hatches_text id ++ hatch_text id

-- the head of a picture of a width and a height
unfoldable pub svg_head : ℕ → ℕ → List ℕ
svg_head w h =
    field_text (text "<svg xmlns='http://www.w3.org/2000/svg' viewBox='0 0 ") w
    ++ field_text (text " ") h
    ++ field_text (text "' width='") w
    ++ field_text (text "' height='") h
    ++ text "'>\n"
    ++ sheet
    ++ hatches_text (id_max + 1)

abbrev pub foot_text : List ℕ
foot_text = text "</svg>\n"
