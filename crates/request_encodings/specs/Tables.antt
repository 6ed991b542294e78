-- The characters of the bytes 80 to ff, in the order of the bytes (WHATWG Encoding, section 9: the indexes of legacy single-byte encodings). A
-- space stands for the character whose number is that of the byte: control characters, the no-break space a0 and the soft hyphen ad.
use Rattle.std.specs.Prelude.{ℕ, List, ◌∷◌, ◌++◌, codes}

-- windows-1250
abbrev pub windows_1250 : List ℕ
windows_1250 =
    codes "€ ‚ „…†‡ ‰Š‹ŚŤŽŹ ‘’“”•–— ™š›śťžź" ++ codes " ˇ˘Ł¤Ą¦§¨©Ş«¬ ®Ż°±˛ł´µ¶·¸ąş»Ľ˝ľż" ++
    codes "ŔÁÂĂÄĹĆÇČÉĘËĚÍÎĎĐŃŇÓÔŐÖ×ŘŮÚŰÜÝŢß" ++ codes "ŕáâăäĺćçčéęëěíîďđńňóôőö÷řůúűüýţ˙"

-- windows-1251
abbrev pub windows_1251 : List ℕ
windows_1251 =
    codes "ЂЃ‚ѓ„…†‡€‰Љ‹ЊЌЋЏђ‘’“”•–— ™љ›њќћџ" ++ codes " ЎўЈ¤Ґ¦§Ё©Є«¬ ®Ї°±Ііґµ¶·ё№є»јЅѕї" ++
    codes "АБВГДЕЖЗИЙКЛМНОПРСТУФХЦЧШЩЪЫЬЭЮЯ" ++ codes "абвгдежзийклмнопрстуфхцчшщъыьэюя"

-- windows-1252, which stands for ISO 8859-1 too
abbrev pub windows_1252 : List ℕ
windows_1252 =
    codes "€ ‚ƒ„…†‡ˆ‰Š‹Œ Ž  ‘’“”•–—˜™š›œ žŸ" ++ codes " ¡¢£¤¥¦§¨©ª«¬ ®¯°±²³´µ¶·¸¹º»¼½¾¿" ++
    codes "ÀÁÂÃÄÅÆÇÈÉÊËÌÍÎÏÐÑÒÓÔÕÖ×ØÙÚÛÜÝÞß" ++ codes "àáâãäåæçèéêëìíîïðñòóôõö÷øùúûüýþÿ"

-- ISO-8859-2
abbrev pub iso_8859_2 : List ℕ
iso_8859_2 =
    codes "                                " ++ codes " Ą˘Ł¤ĽŚ§¨ŠŞŤŹ ŽŻ°ą˛ł´ľśˇ¸šşťź˝žż" ++
    codes "ŔÁÂĂÄĹĆÇČÉĘËĚÍÎĎĐŃŇÓÔŐÖ×ŘŮÚŰÜÝŢß" ++ codes "ŕáâăäĺćçčéęëěíîďđńňóôőö÷řůúűüýţ˙"

-- ISO-8859-5
abbrev pub iso_8859_5 : List ℕ
iso_8859_5 =
    codes "                                " ++ codes " ЁЂЃЄЅІЇЈЉЊЋЌ ЎЏАБВГДЕЖЗИЙКЛМНОП" ++
    codes "РСТУФХЦЧШЩЪЫЬЭЮЯабвгдежзийклмноп" ++ codes "рстуфхцчшщъыьэюя№ёђѓєѕіїјљњћќ§ўџ"

-- ISO-8859-15
abbrev pub iso_8859_15 : List ℕ
iso_8859_15 =
    codes "                                " ++ codes " ¡¢£€¥Š§š©ª«¬ ®¯°±²³Žµ¶·ž¹º»ŒœŸ¿" ++
    codes "ÀÁÂÃÄÅÆÇÈÉÊËÌÍÎÏÐÑÒÓÔÕÖ×ØÙÚÛÜÝÞß" ++ codes "àáâãäåæçèéêëìíîïðñòóôõö÷øùúûüýþÿ"

-- KOI8-R
abbrev pub koi8_r : List ℕ
koi8_r =
    codes "─│┌┐└┘├┤┬┴┼▀▄█▌▐░▒▓⌠■∙√≈≤≥" ++ 0xa0 ∷ codes "⌡°²·÷" ++ codes "═║╒ё╓╔╕╖╗╘╙╚╛╜╝╞╟╠╡Ё╢╣╤╥╦╧╨╩╪╫╬©" ++
    codes "юабцдефгхийклмнопярстужвьызшэщчъ" ++ codes "ЮАБЦДЕФГХИЙКЛМНОПЯРСТУЖВЬЫЗШЭЩЧЪ"
