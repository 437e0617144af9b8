mod Amid
